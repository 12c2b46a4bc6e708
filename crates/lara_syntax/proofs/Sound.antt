-- What is read is in the grammar: the rules.
use Rattle.std.proofs.Common.{◌≡◌, ◌<◌, Bool, true, false, cond, List, [], ◌∷◌, length, Option, Some, None, Ok, refl, sym, subst, arith}
use Rattle.lara_syntax.specs.declared.item.Lexeme.{Lexeme}
use Rattle.lara_syntax.specs.declared.item.Lexeme.TheVariants as lex
use Rattle.lara_syntax.specs.declared.item.Keyword.TheVariants as key
use Rattle.lara_syntax.specs.declared.item.Sign.TheVariants.{Semi, Colon, OpenBracket, CloseBracket, OpenBrace, CloseBrace}
use Rattle.lara_syntax.specs.declared.ast.AstName.{AstName}
use Rattle.lara_syntax.specs.declared.ast.AstKeyCol.{AstKeyCol}
use Rattle.lara_syntax.specs.declared.ast.AstValCol.{AstValCol}
use Rattle.lara_syntax.specs.declared.ast.AstLit.{AstLit}
use Rattle.lara_syntax.specs.declared.ast.AstEntry.{AstEntry}
use Rattle.lara_syntax.specs.declared.ast.AstNode.{AstNode}
use Rattle.lara_syntax.specs.declared.ast.AstOp.TheVariants as op
use Rattle.lara_syntax.specs.Steps.{Items, ◌>>=◌, give, skip, head_word}
use Rattle.lara_syntax.specs.Reading as r
use Rattle.lara_syntax.specs.WordReading as words
use Rattle.lara_syntax.specs.Places.{first_at, node}
use Rattle.lara_syntax.specs.WordReading.{sign}
use Rattle.lara_syntax.specs.Grammar.{KeyCol, key_col, ValCol, val_col, TypeOf, columns, Entry, entry, SemiEntry, semi_entry, SomeSemi, no_semi, semi, Entries, entries, Pair, pair, Leaf, named, load, literal}
use Rattle.lara_syntax.specs.WordGrammar.{Mark, Named, Lit, Commas, commas, Maybe, nothing, just}
use Rattle.lara_syntax.proofs.Turns.{read_of, rest_is, err_ok, none_some}
use Rattle.lara_syntax.proofs.RuleReaders.{comma_name-one, comma_key_col-one, comma_val_col-one, comma_lit-one, semi_entry-one, comma_pair-one}
use Rattle.lara_syntax.proofs.Readers.{bind_ok}
use Rattle.lara_syntax.proofs.SoundWords.{give_to, read_some, some_none, word_taken, sign_sound, keyword_sound, Sound, name_sound, lit_sound, key_type_sound, val_type_sound, listed, commas_sound, absent}

-- ---- names

some_names_when : (o : Option Lexeme) (ts : Items) (ns : List AstName) (u : Items) → r.some_names_by o ts ≡ read_of ns u → Maybe (Commas Named) ns ts u
unfolding r.comma_name
some_names_when (Some (lex.Name n)) ts ns u e = just ns ts u (commas_sound Named words.name name_sound comma_name-one ts ns u e)
some_names_when w ts ns u e = absent (Commas Named) ts ns u e

pub some_names_sound : Sound (Maybe (Commas Named)) r.some_names
unfolding r.some_names
some_names_sound ts ns u e = some_names_when (head_word ts) ts ns u e

-- ---- columns

pub key_col_sound : Sound KeyCol r.key_col
unfolding r.key_col
key_col_sound ts x u e =
    let a = bind_ok (words.name ts) (λ n. sign Colon >>= λ at. words.key_type >>= λ t. give (record { name = n; ty = t })) (x, u) e in
    let b = bind_ok (sign Colon a.1) (λ at. words.key_type >>= λ t. give (record { name = a.0; ty = t })) (x, u) a.3 in
    let c = bind_ok (words.key_type b.1) (λ t. give (record { name = a.0; ty = t })) (x, u) b.3 in
    give_to (λ y q. KeyCol y ts q) (record { name = a.0; ty = c.0 }) c.1 x u c.3 (key_col b.0 a.0 c.0 ts a.1 b.1 c.1 (name_sound ts a.0 a.1 a.2) (sign_sound Colon a.1 b.0 b.1 b.2) (key_type_sound b.1 c.0 c.1 c.2))

some_key_cols_when : (o : Option Lexeme) (ts : Items) (xs : List AstKeyCol) (u : Items) → r.some_key_cols_by o ts ≡ read_of xs u → Maybe (Commas KeyCol) xs ts u
unfolding r.comma_key_col
some_key_cols_when (Some (lex.Name n)) ts xs u e = just xs ts u (commas_sound KeyCol r.key_col key_col_sound comma_key_col-one ts xs u e)
some_key_cols_when w ts xs u e = absent (Commas KeyCol) ts xs u e

some_key_cols_sound : Sound (Maybe (Commas KeyCol)) r.some_key_cols
unfolding r.some_key_cols
some_key_cols_sound ts xs u e = some_key_cols_when (head_word ts) ts xs u e

pub val_col_sound : Sound ValCol r.val_col
unfolding r.val_col
val_col_sound ts x u e =
    let a = bind_ok (words.name ts) (λ n. sign Colon >>= λ at. words.val_type >>= λ t. give (record { name = n; ty = t })) (x, u) e in
    let b = bind_ok (sign Colon a.1) (λ at. words.val_type >>= λ t. give (record { name = a.0; ty = t })) (x, u) a.3 in
    let c = bind_ok (words.val_type b.1) (λ t. give (record { name = a.0; ty = t })) (x, u) b.3 in
    give_to (λ y q. ValCol y ts q) (record { name = a.0; ty = c.0 }) c.1 x u c.3 (val_col b.0 a.0 c.0 ts a.1 b.1 c.1 (name_sound ts a.0 a.1 a.2) (sign_sound Colon a.1 b.0 b.1 b.2) (val_type_sound b.1 c.0 c.1 c.2))

val_cols_sound : Sound (Commas ValCol) r.val_cols
unfolding r.val_cols r.comma_val_col
val_cols_sound ts xs u e = commas_sound ValCol r.val_col val_col_sound comma_val_col-one ts xs u e

commas_some : {A : Type 0} (X : A → Items → Items → Type 0) (xs : List A) (ts u : Items) → Commas X xs ts u → 0 < length xs
commas_some X xs ts u (commas x ys a b c h k) = omega arith

-- there is a value column
pub val_cols_some : (ts : Items) (xs : List AstValCol) (u : Items) → r.val_cols ts ≡ Ok (xs, u) → 0 < length xs
val_cols_some ts xs u e = commas_some ValCol xs ts u (val_cols_sound ts xs u e)

table_type_sound : Sound TypeOf r.table_type
unfolding r.table_type
table_type_sound ts x u e =
    let a = bind_ok (sign OpenBracket ts) (λ at. r.some_key_cols >>= λ ks. sign Colon >>= λ mid. r.val_cols >>= λ vs. sign CloseBracket >>= λ end. give (record { keys = ks; vals = vs })) (x, u) e in
    let b = bind_ok (r.some_key_cols a.1) (λ ks. sign Colon >>= λ mid. r.val_cols >>= λ vs. sign CloseBracket >>= λ end. give (record { keys = ks; vals = vs })) (x, u) a.3 in
    let c = bind_ok (sign Colon b.1) (λ mid. r.val_cols >>= λ vs. sign CloseBracket >>= λ end. give (record { keys = b.0; vals = vs })) (x, u) b.3 in
    let d = bind_ok (r.val_cols c.1) (λ vs. sign CloseBracket >>= λ end. give (record { keys = b.0; vals = vs })) (x, u) c.3 in
    let f = bind_ok (sign CloseBracket d.1) (λ end. give (record { keys = b.0; vals = d.0 })) (x, u) d.3 in
    give_to (λ y q. TypeOf y ts q) (record { keys = b.0; vals = d.0 }) f.1 x u f.3
    (columns a.0 c.0 f.0 b.0 d.0 ts a.1 b.1 c.1 d.1 f.1 (sign_sound OpenBracket ts a.0 a.1 a.2) (some_key_cols_sound a.1 b.0 b.1 b.2) (sign_sound Colon b.1 c.0 c.1 c.2) (val_cols_sound c.1 d.0 d.1 d.2) (sign_sound CloseBracket d.1 f.0 f.1 f.2))

-- ---- entries

lits_sound : Sound (Commas Lit) r.lits
unfolding r.lits r.comma_lit
lits_sound ts xs u e = commas_sound Lit words.lit lit_sound comma_lit-one ts xs u e

some_lits_when : (here : Bool) (ts : Items) (xs : List AstLit) (u : Items) → cond here r.lits (give []) ts ≡ read_of xs u → Maybe (Commas Lit) xs ts u
some_lits_when true ts xs u e = just xs ts u (lits_sound ts xs u e)
some_lits_when false ts xs u e = absent (Commas Lit) ts xs u e

some_lits_sound : Sound (Maybe (Commas Lit)) r.some_lits
unfolding r.some_lits
some_lits_sound ts xs u e = some_lits_when (words.is_literal (head_word ts)) ts xs u e

entry_sound : Sound Entry r.entry
unfolding r.entry
entry_sound ts x u e =
    let a = bind_ok (r.some_lits ts) (λ ks. sign Colon >>= λ at. r.lits >>= λ row. give (record { at = first_at ks at; key = ks; row = row })) (x, u) e in
    let b = bind_ok (sign Colon a.1) (λ at. r.lits >>= λ row. give (record { at = first_at a.0 at; key = a.0; row = row })) (x, u) a.3 in
    let c = bind_ok (r.lits b.1) (λ row. give (record { at = first_at a.0 b.0; key = a.0; row = row })) (x, u) b.3 in
    give_to (λ y q. Entry y ts q) (record { at = first_at a.0 b.0; key = a.0; row = c.0 }) c.1 x u c.3 (entry b.0 a.0 c.0 ts a.1 b.1 c.1 (some_lits_sound ts a.0 a.1 a.2) (sign_sound Colon a.1 b.0 b.1 b.2) (lits_sound b.1 c.0 c.1 c.2))

entry_at_some : (here : Bool) (ts : Items) (x : AstEntry) (u : Items) → cond here r.an_entry (give None) ts ≡ read_of (Some x) u → Entry x ts u
entry_at_some true ts x u e = entry_sound ts x u (read_some (r.entry ts) x u e)
entry_at_some false ts x u e = absurd (none_some ts u x e)

entry_here_some : (o : Option Lexeme) (ts : Items) (x : AstEntry) (u : Items) → r.entry_here_by o ts ≡ read_of (Some x) u → Entry x ts u
entry_here_some (Some (lex.Sign Colon)) ts x u e = entry_sound ts x u (read_some (r.entry ts) x u e)
entry_here_some w ts x u e = entry_at_some (words.is_literal w) ts x u e

entry_here_sound : (ts : Items) (x : AstEntry) (u : Items) → r.entry_here ts ≡ read_of (Some x) u → Entry x ts u
unfolding r.entry_here
entry_here_sound ts x u e = entry_here_some (head_word ts) ts x u e

entry_at_none : (here : Bool) (ts : Items) (u : Items) → cond here r.an_entry (give None) ts ≡ read_of None u → ts ≡ u
entry_at_none true ts u e = absurd (some_none (r.entry ts) u e)
entry_at_none false ts u e = rest_is {A = Option AstEntry} None ts None u e

entry_none_by : (o : Option Lexeme) (ts : Items) (u : Items) → r.entry_here_by o ts ≡ read_of None u → ts ≡ u
entry_none_by (Some (lex.Sign Colon)) ts u e = absurd (some_none (r.entry ts) u e)
entry_none_by w ts u e = entry_at_none (words.is_literal w) ts u e

entry_here_none : (ts : Items) (u : Items) → r.entry_here ts ≡ read_of None u → ts ≡ u
unfolding r.entry_here
entry_here_none ts u e = entry_none_by (head_word ts) ts u e

semi_some : (o : Option Lexeme) (ts : Items) (x : AstEntry) (u : Items) → head_word ts ≡ o → r.semi_entry_by o ts ≡ read_of (Some x) u → SemiEntry x ts u
semi_some (Some (lex.Sign Semi)) ts x u h e =
    let a = bind_ok (skip ts) (λ at. r.entry_here) (Some x, u) e in
    semi_entry a.0 x ts a.1 u (word_taken (lex.Sign Semi) ts a.0 a.1 h a.2) (entry_here_sound a.1 x u a.3)
semi_some w ts x u h e = absurd (none_some ts u x e)

semi_entry_sound : (ts : Items) (x : AstEntry) (u : Items) → r.semi_entry ts ≡ read_of (Some x) u → SemiEntry x ts u
unfolding r.semi_entry
semi_entry_sound ts x u e = semi_some (head_word ts) ts x u refl e

semi_none : (o : Option Lexeme) (ts : Items) (u : Items) → head_word ts ≡ o → r.semi_entry_by o ts ≡ read_of None u → SomeSemi ts u
semi_none (Some (lex.Sign Semi)) ts u h e =
    let a = bind_ok (skip ts) (λ at. r.entry_here) (None, u) e in
    semi a.0 ts u (subst (λ (q : Items). Mark Semi a.0 ts q) (entry_here_none a.1 u a.3) (word_taken (lex.Sign Semi) ts a.0 a.1 h a.2))
semi_none w ts u h e = subst (λ (q : Items). SomeSemi ts q) (rest_is {A = Option AstEntry} None ts None u e) (no_semi ts)

semi_entry_none : (ts : Items) (u : Items) → r.semi_entry ts ≡ read_of None u → SomeSemi ts u
unfolding r.semi_entry
semi_entry_none ts u e = semi_none (head_word ts) ts u refl e

entries_when : (o : Option AstEntry) (ts m : Items) (es : List AstEntry) (u : Items) → r.entry_here ts ≡ read_of o m → r.entries_from o m ≡ read_of es u → Maybe Entries es ts u
entries_when None ts m es u h e = give_to (λ fs q. Maybe Entries fs ts q) [] m es u e (subst (λ (q : Items). Maybe Entries [] ts q) (entry_here_none ts m h) (nothing ts))
entries_when (Some x) ts m es u h e =
    let l = listed SemiEntry (λ ys. r.semi_entry) (λ ys. semi_entry_sound) (λ ys. semi_entry-one) (x ∷ []) es m u e in
    subst (λ (fs : List AstEntry). Maybe Entries fs ts u) (sym l.all) (just (x ∷ l.xs) ts u (entries x l.xs ts m l.end u (entry_here_sound ts x m h) l.many (semi_entry_none l.end u l.ended)))

some_entries_sound : Sound (Maybe Entries) r.some_entries
unfolding r.some_entries
some_entries_sound ts es u e = let h = bind_ok (r.entry_here ts) r.entries_from (es, u) e in entries_when h.0 ts h.1 es u h.2 h.3

-- ---- pairs

pair_sound : Sound Pair r.pair
unfolding r.pair
pair_sound ts x u e =
    let a = bind_ok (words.name ts) (λ n. words.keyword key.To >>= λ at. words.name >>= λ m. give (record { old = n; new = m })) (x, u) e in
    let b = bind_ok (words.keyword key.To a.1) (λ at. words.name >>= λ m. give (record { old = a.0; new = m })) (x, u) a.3 in
    let c = bind_ok (words.name b.1) (λ m. give (record { old = a.0; new = m })) (x, u) b.3 in
    give_to (λ y q. Pair y ts q) (record { old = a.0; new = c.0 }) c.1 x u c.3 (pair b.0 a.0 c.0 ts a.1 b.1 c.1 (name_sound ts a.0 a.1 a.2) (keyword_sound key.To a.1 b.0 b.1 b.2) (name_sound b.1 c.0 c.1 c.2))

pub pairs_sound : Sound (Commas Pair) r.pairs
unfolding r.pairs r.comma_pair
pairs_sound ts xs u e = commas_sound Pair r.pair pair_sound comma_pair-one ts xs u e

-- ---- tables

leaf_when : (o : Option Lexeme) (ts : Items) (x : AstNode) (u : Items) → head_word ts ≡ o → r.leaf_by o ts ≡ read_of x u → Leaf x ts u
leaf_when (Some (lex.Name n)) ts x u h e =
    let a = bind_ok (words.name ts) (λ y. give (node y.at (op.Named y))) (x, u) e in
    give_to (λ y q. Leaf y ts q) (node a.0.at (op.Named a.0)) a.1 x u a.3 (named a.0 ts a.1 (name_sound ts a.0 a.1 a.2))
leaf_when (Some (lex.Key key.Load)) ts x u h e =
    let a = bind_ok (skip ts) (λ at. words.name >>= λ y. give (node at (op.Load y))) (x, u) e in
    let b = bind_ok (words.name a.1) (λ y. give (node a.0 (op.Load y))) (x, u) a.3 in
    give_to (λ y q. Leaf y ts q) (node a.0 (op.Load b.0)) b.1 x u b.3 (load a.0 b.0 ts a.1 b.1 (word_taken (lex.Key key.Load) ts a.0 a.1 h a.2) (name_sound a.1 b.0 b.1 b.2))
leaf_when (Some (lex.Key key.Table)) ts x u h e =
    let a = bind_ok (skip ts) (λ at. r.table_type >>= λ ty. sign OpenBrace >>= λ from. r.some_entries >>= λ es. sign CloseBrace >>= λ end. give (node at (op.Literal ty es))) (x, u) e in
    let b = bind_ok (r.table_type a.1) (λ ty. sign OpenBrace >>= λ from. r.some_entries >>= λ es. sign CloseBrace >>= λ end. give (node a.0 (op.Literal ty es))) (x, u) a.3 in
    let c = bind_ok (sign OpenBrace b.1) (λ from. r.some_entries >>= λ es. sign CloseBrace >>= λ end. give (node a.0 (op.Literal b.0 es))) (x, u) b.3 in
    let d = bind_ok (r.some_entries c.1) (λ es. sign CloseBrace >>= λ end. give (node a.0 (op.Literal b.0 es))) (x, u) c.3 in
    let f = bind_ok (sign CloseBrace d.1) (λ end. give (node a.0 (op.Literal b.0 d.0))) (x, u) d.3 in
    give_to (λ y q. Leaf y ts q) (node a.0 (op.Literal b.0 d.0)) f.1 x u f.3
    (literal a.0 c.0 f.0 b.0 d.0 ts a.1 b.1 c.1 d.1 f.1 (word_taken (lex.Key key.Table) ts a.0 a.1 h a.2) (table_type_sound a.1 b.0 b.1 b.2) (sign_sound OpenBrace b.1 c.0 c.1 c.2) (some_entries_sound c.1 d.0 d.1 d.2) (sign_sound CloseBrace d.1 f.0 f.1 f.2))
leaf_when w ts x u h e = absurd (err_ok {A = AstNode} _ (x, u) e)

pub leaf_sound : Sound Leaf r.leaf
unfolding r.leaf
leaf_sound ts x u e = leaf_when (head_word ts) ts x u refl e
