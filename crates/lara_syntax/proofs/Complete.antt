-- What is in the grammar is read.
use Rattle.std.proofs.Common.{◌≡◌, ℕ, List, [], ◌∷◌, ◌++◌, Option, Some, None, is_some, refl, sym, ap, subst, ◌∙◌, append_assoc, Bool, true, false, cond}
use Rattle.std.proofs.lemmas.List.{append-nil}
use Rattle.lara_data.specs.declared.refusal.Kind.TheVariants.{Unexpected}
use Rattle.lara_key.specs.declared.key.KeyType.{KeyType}
use Rattle.lara_key.specs.declared.key.KeyType.TheVariants as key_type_of
use Rattle.lara_semiring.specs.declared.value.ValType.{ValType}
use Rattle.lara_semiring.specs.declared.value.ValType.TheVariants as val_type_of
use Rattle.lara_syntax.specs.declared.item.Lexeme.{Lexeme}
use Rattle.lara_syntax.specs.declared.item.Lexeme.TheVariants as lex
use Rattle.lara_syntax.specs.declared.item.Keyword.{Keyword}
use Rattle.lara_syntax.specs.declared.item.Keyword.TheVariants as key
use Rattle.lara_syntax.specs.declared.item.Sign.{Sign}
use Rattle.lara_syntax.specs.declared.item.Sign.TheVariants.{Semi, Comma, Colon, OpenBracket, CloseBracket, OpenBrace, CloseBrace, Close}
use Rattle.lara_syntax.specs.declared.ast.AstName.{AstName}
use Rattle.lara_syntax.specs.declared.ast.AstKeyCol.{AstKeyCol}
use Rattle.lara_syntax.specs.declared.ast.AstValCol.{AstValCol}
use Rattle.lara_syntax.specs.AstTypes.{AstColumns}
use Rattle.lara_syntax.specs.declared.ast.AstLit.{AstLit}
use Rattle.lara_syntax.specs.declared.ast.AstValue.{AstValue}
use Rattle.lara_syntax.specs.declared.ast.AstValue.TheVariants as val
use Rattle.lara_syntax.specs.declared.ast.AstEntry.{AstEntry}
use Rattle.lara_syntax.specs.declared.ast.AstNode.{AstNode}
use Rattle.lara_syntax.specs.declared.ast_part.AstPair.{AstPair}
use Rattle.lara_syntax.specs.Steps.{Items, Read, Reader, ◌>>=◌, give, refuse, peek, skip, items_from, head_word}
use Rattle.lara_syntax.specs.Reading as r
use Rattle.lara_syntax.specs.WordReading as words
use Rattle.lara_syntax.proofs.WordTextLaws.{same_keyword-refl, same_sign-refl}
use Rattle.lara_syntax.specs.WordReading.{sign, sign_by, next_as, taken_as, comma_by}
use Rattle.lara_syntax.specs.Grammar.{KeyCol, key_col, ValCol, val_col, TypeOf, columns, Entry, entry, SemiEntry, semi_entry, SomeSemi, no_semi, semi, Entries, entries, Pair, pair, Leaf, named, load, literal}
use Rattle.lara_syntax.specs.WordGrammar.{Word, word, Mark, Key, Named, literal_word, Lit, key_type_word, KeyTyped, val_type_word, ValTyped, Many, none, more, CommaThen, comma_then, Commas, commas, Maybe, nothing, just}
use Rattle.lara_syntax.proofs.Turns.{TakesOne, read_of, items-some, items-none}
use Rattle.lara_syntax.proofs.RuleReaders.{comma_name-one, comma_key_col-one, comma_val_col-one, comma_lit-one, semi_entry-one, comma_pair-one}

-- ---- one word

pub head_is : (w : Lexeme) (at : ℕ) (ts us : Items) → Word w at ts us → head_word ts ≡ Some w
head_is w at ts us (word a n r) = refl

pub skip_is : (w : Lexeme) (at : ℕ) (ts us : Items) → Word w at ts us → skip ts ≡ read_of at us
skip_is w at ts us (word a n r) = refl

-- one step, and what is made of it
pub step : {A B : Type 0} (p : Reader A) (f : A → Reader B) (ts : Items) (x : A) (us : Items) (y : Read B) → p ts ≡ read_of x us → f x us ≡ y → (p >>= f) ts ≡ y
step p f ts x us y e h = rw e h

-- a choice by the word that is next
pub chosen : {A : Type 0} (by : Option Lexeme → Reader A) (ts : Items) (w : Option Lexeme) (y : Read A) → head_word ts ≡ w → by w ts ≡ y → (peek >>= by) ts ≡ y
chosen by ts w y e h = ap (λ (o : Option Lexeme). by o ts) e ∙ h

pub sign_reads : (m : Sign) (at : ℕ) (ts us : Items) → Mark m at ts us → sign m ts ≡ read_of at us
unfolding sign
sign_reads m at ts us h = chosen (sign_by m) ts (Some (lex.Sign m)) (read_of at us) (head_is _ at ts us h) (ap (λ (b : Bool). cond b skip (refuse Unexpected) ts) (same_sign-refl m) ∙ skip_is _ at ts us h)

pub keyword_reads : (k : Keyword) (at : ℕ) (ts us : Items) → Key k at ts us → words.keyword k ts ≡ read_of at us
unfolding words.keyword
keyword_reads k at ts us h = chosen (words.keyword_by k) ts (Some (lex.Key k)) (read_of at us) (head_is _ at ts us h) (ap (λ (b : Bool). cond b skip (refuse Unexpected) ts) (same_keyword-refl k) ∙ skip_is _ at ts us h)

pub name_reads : (x : AstName) (ts us : Items) → Named x ts us → words.name ts ≡ read_of x us
unfolding words.name
name_reads x ts us h = chosen words.name_by ts (Some (lex.Name x.name)) (read_of x us) (head_is _ x.at ts us h) (rw (skip_is _ x.at ts us h) refl)

-- a word that stands for something
as_reads : {A B : Type 0} (make : ℕ → A → B) (f : Lexeme → Option A) (w : Lexeme) (x : A) (at : ℕ) (ts us : Items) → f w ≡ Some x → Word w at ts us → (peek >>= λ o. taken_as make (next_as f o)) ts ≡ read_of (make at x) us
as_reads {A = A} make f w x at ts us e h = chosen (λ o. taken_as make (next_as f o)) ts (Some w) (read_of (make at x) us) (head_is w at ts us h) (ap (λ (o : Option A). taken_as make o ts) e ∙ rw (skip_is w at ts us h) refl)

literal_is : (v : AstValue) → words.literal_of (literal_word v) ≡ Some v
literal_is (val.Number n) = refl
literal_is (val.Text content) = refl
literal_is (val.Flag true) = refl
literal_is (val.Flag false) = refl
literal_is val.Inf = refl
literal_is val.None = refl

pub lit_reads : (x : AstLit) (ts us : Items) → Lit x ts us → words.lit ts ≡ read_of x us
unfolding words.lit
lit_reads x ts us h = as_reads words.lit_at words.literal_of (literal_word x.value) x.value x.at ts us (literal_is x.value) h

key_type_is : (t : KeyType) → words.word_key_type (lex.Key (key_type_word t)) ≡ Some t
key_type_is key_type_of.Nat = refl
key_type_is key_type_of.Text = refl
key_type_is key_type_of.Flag = refl

key_type_reads : (x : KeyType) (ts us : Items) → KeyTyped x ts us → words.key_type ts ≡ read_of x us
unfolding words.key_type
key_type_reads x ts us h = as_reads words.without_place words.word_key_type (lex.Key (key_type_word x)) x h.0 ts us (key_type_is x) h.1

val_type_is : (t : ValType) → words.word_val_type (lex.Key (val_type_word t)) ≡ Some t
val_type_is val_type_of.Count = refl
val_type_is val_type_of.MinPlus = refl
val_type_is val_type_of.MaxMin = refl
val_type_is val_type_of.Flag = refl
val_type_is val_type_of.Last = refl
val_type_is val_type_of.Path = refl

val_type_reads : (x : ValType) (ts us : Items) → ValTyped x ts us → words.val_type ts ≡ read_of x us
unfolding words.val_type
val_type_reads x ts us h = as_reads words.without_place words.word_val_type (lex.Key (val_type_word x)) x h.0 ts us (val_type_is x) h.1

-- ---- lists

abbrev ItemReads : {A : Type 0} → (A → Items → Items → Type 0) → Reader (Option A) → (Items → Type 0) → Type 0
ItemReads {A = A} X item After = (x : A) (ts us : Items) → X x ts us → After us → item ts ≡ read_of (Some x) us

abbrev Begins : {A : Type 0} → (A → Items → Items → Type 0) → (Items → Type 0) → Type 0
Begins {A = A} X After = (x : A) (ts us : Items) → X x ts us → After ts

many_after : {A : Type 0} (X : A → Items → Items → Type 0) (After : Items → Type 0) → Begins X After → (xs : List A) (ts rest : Items) → Many X xs ts rest → After rest → After ts
many_after X After begins xs ts rest (none r) after = after
many_after X After begins xs ts rest (more x ys vs us r h hs) after = begins x vs us h

pub many_reads : {A : Type 0} (X : A → Items → Items → Type 0) (item : Reader (Option A)) (After : Items → Type 0) → TakesOne item → ItemReads X item After → Begins X After → (xs : List A) (ts rest : Items) → Many X xs ts rest → After rest → (acc : List A) → items_from item acc ts ≡ items_from item (acc ++ xs) rest
many_reads X item After one reads begins xs ts rest (none r) after acc = ap (λ q. items_from item q r) (sym (append-nil acc))
many_reads X item After one reads begins xs ts rest (more x ys vs us r h hs) after acc =
    items-some item one acc vs x us (reads x vs us h (many_after X After begins ys us r hs after)) ∙ many_reads X item After one reads begins ys us r hs after (acc ++ x ∷ []) ∙ ap (λ q. items_from item q r) (append_assoc acc (x ∷ []) ys)

abbrev anything : Items → Type 0
anything ts = Unit {0}

abbrev Reads : {A : Type 0} → (A → Items → Items → Type 0) → Reader A → Type 0
Reads {A = A} X p = (x : A) (ts us : Items) → X x ts us → p ts ≡ read_of x us

-- what may not stand behind a list
abbrev pub NoComma : Option Lexeme → Type 0
NoComma (Some (lex.Sign Comma)) = ⊥
NoComma w = Unit {0}

no_comma_by : {A : Type 0} (p : Reader A) (w : Option Lexeme) (ts : Items) → NoComma w → comma_by p w ts ≡ read_of None ts
no_comma_by p (Some (lex.Sign Comma)) ts a = absurd a
no_comma_by p w ts a = refl

pub no_comma : {A : Type 0} (p : Reader A) (ts : Items) → NoComma (head_word ts) → words.comma_then p ts ≡ read_of None ts
no_comma p ts a = no_comma_by p (head_word ts) ts a

comma_reads : {A : Type 0} (X : A → Items → Items → Type 0) (p : Reader A) → Reads X p → ItemReads (CommaThen X) (words.comma_then p) anything
comma_reads X p reads x ts us (comma_then at y a b c h k) after = chosen (comma_by p) a (Some (lex.Sign Comma)) (read_of (Some y) c) (head_is _ at a b h) (rw (skip_is _ at a b h, reads y b c k) refl)

-- a list of what ends by itself, with what was read before
list_reads : {A : Type 0} (X : A → Items → Items → Type 0) (p : Reader A) → Reads X p → TakesOne (words.comma_then p) → (x : A) (xs : List A) (ts rest : Items) → Many (CommaThen X) xs ts rest → NoComma (head_word rest) → items_from (words.comma_then p) (x ∷ []) ts ≡ read_of (x ∷ xs) rest
list_reads X p reads one x xs ts rest h after =
    many_reads (CommaThen X) (words.comma_then p) anything one (comma_reads X p reads) (λ y us vs k. tt) xs ts rest h tt (x ∷ []) ∙ items-none (words.comma_then p) one (x ∷ xs) rest None rest (no_comma p rest after) refl

commas_reads : {A : Type 0} (X : A → Items → Items → Type 0) (p : Reader A) → Reads X p → TakesOne (words.comma_then p) → (xs : List A) (ts rest : Items) → Commas X xs ts rest → NoComma (head_word rest) → (p >>= λ x. items_from (words.comma_then p) (x ∷ [])) ts ≡ read_of xs rest
commas_reads X p reads one xs ts rest (commas x ys a b c h k) after = step p (λ x. items_from (words.comma_then p) (x ∷ [])) a x b (read_of (x ∷ ys) c) (reads x a b h) (list_reads X p reads one x ys b c k after)

-- ---- names

-- what may not stand behind names
abbrev pub AfterNames : Option Lexeme → Type 0
AfterNames (Some (lex.Name n)) = ⊥
AfterNames (Some (lex.Sign Comma)) = ⊥
AfterNames w = Unit {0}

pub names_comma : (w : Option Lexeme) → AfterNames w → NoComma w
names_comma (Some (lex.Sign Comma)) a = a
names_comma w a = tt

pub no_names_by : (w : Option Lexeme) (ts : Items) → AfterNames w → r.some_names_by w ts ≡ read_of [] ts
no_names_by (Some (lex.Name n)) ts a = absurd a
no_names_by w ts a = refl

names_head : (ns : List AstName) (ts rest : Items) → Commas Named ns ts rest → (n : List ℕ) × (head_word ts ≡ Some (lex.Name n))
names_head ns ts rest (commas x ys a b c h k) = (x.name, head_is _ x.at a b h)

pub some_names_reads : (ns : List AstName) (ts rest : Items) → Maybe (Commas Named) ns ts rest → AfterNames (head_word rest) → r.some_names ts ≡ read_of ns rest
unfolding r.some_names r.comma_name
some_names_reads ns ts rest (nothing q) after = no_names_by (head_word q) q after
some_names_reads ns ts rest (just ms a c h) after =
    let n = names_head ms a c h in
    chosen r.some_names_by a (Some (lex.Name n.0)) (read_of ms c) n.1 (commas_reads Named words.name name_reads comma_name-one ms a c h (names_comma (head_word c) after))

-- ---- columns

pub key_col_reads : (x : AstKeyCol) (ts us : Items) → KeyCol x ts us → r.key_col ts ≡ read_of x us
unfolding r.key_col
key_col_reads x ts us (key_col c n t a b d e h k l) = rw (name_reads n a b h, sign_reads Colon c b d k, key_type_reads t d e l) refl

key_cols_head : (xs : List AstKeyCol) (ts rest : Items) → Commas KeyCol xs ts rest → (n : List ℕ) × (head_word ts ≡ Some (lex.Name n))
key_cols_head xs ts rest (commas x ys a b c (key_col d n t a' b' d' e h' k' l) k) = (n.name, head_is _ n.at a' b' h')

-- the sign that is next
abbrev pub Next : Sign → Items → Type 0
Next m ts = head_word ts ≡ Some (lex.Sign m)

pub next_no_comma : (w : Option Lexeme) (m : Sign) → w ≡ Some (lex.Sign m) → NoComma (Some (lex.Sign m)) → NoComma w
next_no_comma w m e a = subst NoComma (sym e) a

some_key_cols_reads : (xs : List AstKeyCol) (ts rest : Items) → Maybe (Commas KeyCol) xs ts rest → Next Colon rest → r.some_key_cols ts ≡ read_of xs rest
unfolding r.some_key_cols r.comma_key_col
some_key_cols_reads xs ts rest (nothing q) after = chosen r.some_key_cols_by q (Some (lex.Sign Colon)) (read_of [] q) after refl
some_key_cols_reads xs ts rest (just ys a c h) after =
    let n = key_cols_head ys a c h in
    chosen r.some_key_cols_by a (Some (lex.Name n.0)) (read_of ys c) n.1 (commas_reads KeyCol r.key_col key_col_reads comma_key_col-one ys a c h (next_no_comma (head_word c) Colon after tt))

pub val_col_reads : (x : AstValCol) (ts us : Items) → ValCol x ts us → r.val_col ts ≡ read_of x us
unfolding r.val_col
val_col_reads x ts us (val_col c n t a b d e h k l) = rw (name_reads n a b h, sign_reads Colon c b d k, val_type_reads t d e l) refl

val_cols_reads : (xs : List AstValCol) (ts rest : Items) → Commas ValCol xs ts rest → NoComma (head_word rest) → r.val_cols ts ≡ read_of xs rest
unfolding r.val_cols r.comma_val_col
val_cols_reads xs ts rest h after = commas_reads ValCol r.val_col val_col_reads comma_val_col-one xs ts rest h after

table_type_reads : (x : AstColumns) (ts us : Items) → TypeOf x ts us → r.table_type ts ≡ read_of x us
unfolding r.table_type
table_type_reads x ts us (columns a b c ks vs t1 t2 t3 t4 t5 t6 h1 h2 h3 h4 h5) =
    rw (sign_reads OpenBracket a t1 t2 h1, some_key_cols_reads ks t2 t3 h2 (head_is _ b t3 t4 h3), sign_reads Colon b t3 t4 h3, val_cols_reads vs t4 t5 h4 (next_no_comma (head_word t5) CloseBracket (head_is _ c t5 t6 h5) tt), sign_reads CloseBracket c t5 t6 h5) refl

-- ---- entries

lits_reads : (xs : List AstLit) (ts rest : Items) → Commas Lit xs ts rest → NoComma (head_word rest) → r.lits ts ≡ read_of xs rest
unfolding r.lits r.comma_lit
lits_reads xs ts rest h after = commas_reads Lit words.lit lit_reads comma_lit-one xs ts rest h after

lits_head : (xs : List AstLit) (ts rest : Items) → Commas Lit xs ts rest → (v : AstValue) × (head_word ts ≡ Some (literal_word v))
lits_head xs ts rest (commas x ys a b c h k) = (x.value, head_is _ x.at a b h)

is_literal_word : (v : AstValue) → words.is_literal (Some (literal_word v)) ≡ true
is_literal_word v = ap (λ (o : Option AstValue). is_some o) (literal_is v)

some_lits_reads : (xs : List AstLit) (ts rest : Items) → Maybe (Commas Lit) xs ts rest → Next Colon rest → r.some_lits ts ≡ read_of xs rest
unfolding r.some_lits
some_lits_reads xs ts rest (nothing q) after = chosen r.some_lits_by q (Some (lex.Sign Colon)) (read_of [] q) after refl
some_lits_reads xs ts rest (just ys a c h) after =
    let n = lits_head ys a c h in
    chosen r.some_lits_by a (Some (literal_word n.0)) (read_of ys c) n.1 (ap (λ (b : Bool). cond b r.lits (give []) a) (is_literal_word n.0) ∙ lits_reads ys a c h (next_no_comma (head_word c) Colon after tt))

pub entry_reads : (x : AstEntry) (ts us : Items) → Entry x ts us → NoComma (head_word us) → r.entry ts ≡ read_of x us
unfolding r.entry
entry_reads x ts us (entry c ks row a b d e h k l) after = rw (some_lits_reads ks a b h (head_is _ c b d k), sign_reads Colon c b d k, lits_reads row d e l after) refl

entry_at : (v : AstValue) (ts : Items) → r.entry_here_by (Some (literal_word v)) ts ≡ r.an_entry ts
entry_at (val.Number n) ts = refl
entry_at (val.Text content) ts = refl
entry_at (val.Flag true) ts = refl
entry_at (val.Flag false) ts = refl
entry_at val.Inf ts = refl
entry_at val.None ts = refl

-- an entry begins with a literal or with `:`
entry_begins : (x : AstEntry) (ts us : Items) → Entry x ts us → (y : Read (Option AstEntry)) → ((w : Option Lexeme) → r.entry_here_by w ts ≡ (r.entry >>= λ e. give (Some e)) ts → head_word ts ≡ w → (r.entry_here_by (head_word ts) ts ≡ y)) → r.entry_here_by (head_word ts) ts ≡ y
entry_begins x ts us (entry c ks row a b d e (nothing q) k l) y f = f (Some (lex.Sign Colon)) refl (head_is _ c b d k)
entry_begins x ts us (entry c ks row a b d e (just ys a' c' h) k l) y f = let n = lits_head ys a' c' h in f (Some (literal_word n.0)) (entry_at n.0 ts) n.1

pub entry_here_reads : (x : AstEntry) (ts us : Items) → Entry x ts us → NoComma (head_word us) → r.entry_here ts ≡ read_of (Some x) us
unfolding r.entry_here
entry_here_reads x ts us h after = entry_begins x ts us h (read_of (Some x) us) (λ w e n. ap (λ (o : Option Lexeme). r.entry_here_by o ts) n ∙ e ∙ rw (entry_reads x ts us h after) refl)

abbrev SemiFollows : Items → Type 0
SemiFollows ts = NoComma (head_word ts)

semi_entry_reads : ItemReads SemiEntry r.semi_entry SemiFollows
unfolding r.semi_entry
semi_entry_reads x ts us (semi_entry c e a b d h k) after = chosen r.semi_entry_by a (Some (lex.Sign Semi)) (read_of (Some e) d) (head_is _ c a b h) (rw (skip_is _ c a b h) (entry_here_reads e b d k after))

semi_begins : Begins SemiEntry SemiFollows
semi_begins x ts us (semi_entry c e a b d h k) = subst NoComma (sym (head_is _ c a b h)) tt

-- entries stand in front of }
end_semi : (us rest : Items) → SomeSemi us rest → Next CloseBrace rest → r.semi_entry us ≡ read_of None rest
unfolding r.semi_entry r.entry_here
end_semi us rest (no_semi q) after = chosen r.semi_entry_by q (Some (lex.Sign CloseBrace)) (read_of None q) after refl
end_semi us rest (semi c a b h) after = chosen r.semi_entry_by a (Some (lex.Sign Semi)) (read_of None b) (head_is _ c a b h) (rw (skip_is _ c a b h) (chosen r.entry_here_by b (Some (lex.Sign CloseBrace)) (read_of None b) after refl))

end_follows : (us rest : Items) → SomeSemi us rest → Next CloseBrace rest → SemiFollows us
end_follows us rest (no_semi q) after = next_no_comma (head_word q) CloseBrace after tt
end_follows us rest (semi c a b h) after = subst NoComma (sym (head_is _ c a b h)) tt

entries_reads : (es : List AstEntry) (ts rest : Items) → Entries es ts rest → Next CloseBrace rest → r.some_entries ts ≡ read_of es rest
unfolding r.some_entries
entries_reads es ts rest (entries e fs a b c d h k s) after =
    let follows : SemiFollows c = end_follows c d s after in
    step r.entry_here r.entries_from a (Some e) b (read_of (e ∷ fs) d) (entry_here_reads e a b h (many_after SemiEntry SemiFollows semi_begins fs b c k follows))
    (many_reads SemiEntry r.semi_entry SemiFollows semi_entry-one semi_entry_reads semi_begins fs b c k follows (e ∷ []) ∙ items-none r.semi_entry semi_entry-one (e ∷ fs) c None d (end_semi c d s after) refl)

some_entries_reads : (es : List AstEntry) (ts rest : Items) → Maybe Entries es ts rest → Next CloseBrace rest → r.some_entries ts ≡ read_of es rest
unfolding r.some_entries r.entry_here
some_entries_reads es ts rest (nothing q) after = step r.entry_here r.entries_from q None q (read_of [] q) (chosen r.entry_here_by q (Some (lex.Sign CloseBrace)) (read_of None q) after refl) refl
some_entries_reads es ts rest (just fs a c h) after = entries_reads fs a c h after

-- ---- pairs

pair_reads : Reads Pair r.pair
unfolding r.pair
pair_reads x ts us (pair at n m a b d e h k l) = rw (name_reads n a b h, keyword_reads key.To at b d k, name_reads m d e l) refl

pub pairs_reads : (xs : List AstPair) (ts rest : Items) → Commas Pair xs ts rest → NoComma (head_word rest) → r.pairs ts ≡ read_of xs rest
unfolding r.pairs r.comma_pair
pairs_reads xs ts rest h after = commas_reads Pair r.pair pair_reads comma_pair-one xs ts rest h after

-- ---- tables

-- what may stand behind a table
abbrev pub AfterTable : Option Lexeme → Type 0
AfterTable (Some (lex.Sign Semi)) = Unit {0}
AfterTable (Some (lex.Sign Close)) = Unit {0}
AfterTable w = ⊥

pub table_names : (w : Option Lexeme) → AfterTable w → AfterNames w
table_names (Some (lex.Sign Semi)) a = tt
table_names (Some (lex.Sign Close)) a = tt
table_names w a = absurd a

pub table_comma : (w : Option Lexeme) → AfterTable w → NoComma w
table_comma w a = names_comma w (table_names w a)

pub leaf_reads : (x : AstNode) (ts us : Items) → Leaf x ts us → r.leaf ts ≡ read_of x us
unfolding r.leaf
leaf_reads x ts us (named n a b h) = chosen r.leaf_by a (Some (lex.Name n.name)) (read_of _ b) (head_is _ n.at a b h) (rw (name_reads n a b h) refl)
leaf_reads x ts us (load at n a b c h k) = chosen r.leaf_by a (Some (lex.Key key.Load)) (read_of _ c) (head_is _ at a b h) (rw (skip_is _ at a b h, name_reads n b c k) refl)
leaf_reads x ts us (literal at a b ty es t1 t2 t3 t4 t5 t6 h1 h2 h3 h4 h5) =
    chosen r.leaf_by t1 (Some (lex.Key key.Table)) (read_of _ t6) (head_is _ at t1 t2 h1)
    (rw (skip_is _ at t1 t2 h1, table_type_reads ty t2 t3 h2, sign_reads OpenBrace a t3 t4 h3, some_entries_reads es t4 t5 h4 (head_is _ b t5 t6 h5), sign_reads CloseBrace b t5 t6 h5) refl)
