-- What stands before the word at which a reader stops can go on to what it reads.
use Rattle.std.proofs.Common.{◌≡◌, ◌⊎◌, [], ◌∷◌, ◌++◌, length, Option, Some, inl, inr, refl, sym, ap, subst, ◌∙◌, append_assoc}
use Rattle.lara_syntax.specs.declared.item.Lexeme.{Lexeme}
use Rattle.lara_syntax.specs.declared.fault.Stop.{Stop}
use Rattle.lara_data.specs.declared.refusal.Kind.{Kind}
use Rattle.lara_syntax.specs.StartSymbols.{AreSpelled}
use Rattle.lara_syntax.specs.Steps.{Items, Reader, ◌>>=◌, give, refuse, peek, head_word}
use Rattle.lara_syntax.proofs.Turns.{read_of, erred, rest_is, value_is, err_ok}
use Rattle.lara_syntax.proofs.Readers.{IsReader, bind_ok, bind_err, split, longer, regroup, ok_err, nothing_before, stop_is}

pub spelled_append : (ts us : Items) → AreSpelled ts → AreSpelled us → AreSpelled (ts ++ us)
spelled_append [] us a b = b
spelled_append (t ∷ ts) us a b = (a.0, spelled_append ts us a.1 b)

pub record Goes {A : Type 0} (F : Option Lexeme → Type 0) (p : Reader A) (ts : Items) (d : Stop) : Type 0 where
  pub before : Items
  pub bad : Items
  pub parts : ts ≡ before ++ bad
  pub place : d.left ≡ length bad
  pub more : Items
  pub spelled : AreSpelled more
  pub x : A
  pub on : (v : Items) → F (head_word v) → p (before ++ (more ++ v)) ≡ read_of x v

-- other words in front of those that can go on
pub goes_behind : {A : Type 0} (F : Option Lexeme → Type 0) (p q : Reader A) (front ts us : Items) (d : Stop) → ts ≡ front ++ us → (g : Goes F q us d) → ((v : Items) → F (head_word v) → p (front ++ (g.before ++ (g.more ++ v))) ≡ read_of g.x v) → Goes F p ts d
goes_behind F p q front ts us d e g on = record {
  before = front ++ g.before;
  bad = g.bad;
  parts = e ∙ ap (λ (r : Items). front ++ r) g.parts ∙ sym (append_assoc front g.before g.bad);
  place = g.place;
  more = g.more;
  spelled = g.spelled;
  x = g.x;
  on = λ v after. ap p (append_assoc front g.before (g.more ++ v)) ∙ on v after;
}

-- F: what may follow. It ends there whatever of F is next; it reads some words; where it stops, the words before can go on.
pub record IsViable {A : Type 0} (F : Option Lexeme → Type 0) (p : Reader A) : Type 0 where
  pub stays : (before u v : Items) (x : A) → p (before ++ u) ≡ read_of x u → F (head_word v) → p (before ++ v) ≡ read_of x v
  pub word : Items
  pub spelled : AreSpelled word
  pub value : A
  pub says : (v : Items) → F (head_word v) → p (word ++ v) ≡ read_of value v
  pub goes : (ts : Items) (d : Stop) → p ts ≡ erred d → Goes F p ts d

-- what a reader takes, with something of F behind it, begins with something of G
abbrev pub Starts : {B : Type 0} → (F G : Option Lexeme → Type 0) → Reader B → Type 0
Starts {B = B} F G q = (ts : Items) (y : B) (v : Items) → q ts ≡ read_of y v → F (head_word v) → G (head_word ts)

both : {A B : Type 0} (p : Reader A) (f : A → Reader B) (a m v : Items) (x : A) (y : B) → p (a ++ m) ≡ read_of x m → f x m ≡ read_of y v → (p >>= f) (a ++ m) ≡ read_of y v
both p f a m v x y e e2 = rw e e2

bind_stays : {A B : Type 0} (F G : Option Lexeme → Type 0) (p : Reader A) (f : A → Reader B) → IsReader p → ((x : A) → IsReader (f x)) → IsViable G p → ((x : A) → IsViable F (f x)) → ((x : A) → Starts F G (f x)) → (before u v : Items) (y : B) → (p >>= f) (before ++ u) ≡ read_of y u → F (head_word v) → (p >>= f) (before ++ v) ≡ read_of y v
bind_stays F G p f ip if vp vf starts before u v y e after =
    let h = bind_ok (p (before ++ u)) f (y, u) e in
    let a = ip.front (before ++ u) h.0 h.1 h.2 in
    let b = (if h.0).front h.1 y u h.3 in
    let s = split a.0 h.1 before u (sym a.1) (longer h.1 b.0 u b.1) in
    let k : f h.0 (s.0 ++ v) ≡ read_of y v = (vf h.0).stays s.0 u v y (ap (f h.0) (sym s.1) ∙ h.3) after in
    let g : G (head_word (s.0 ++ v)) = starts h.0 (s.0 ++ v) y v k after in
    let first : p (a.0 ++ (s.0 ++ v)) ≡ read_of h.0 (s.0 ++ v) = vp.stays a.0 h.1 (s.0 ++ v) h.0 (ap p (sym a.1) ∙ h.2) g in
    ap (p >>= f) (regroup before a.0 s.0 v s.2) ∙ both p f a.0 (s.0 ++ v) v h.0 y first k

-- a text of p and what f makes of it
joined : {A B : Type 0} (F G : Option Lexeme → Type 0) (p : Reader A) (f : A → Reader B) (starts : (x : A) → Starts F G (f x)) (a b w v : Items) (x : A) (y : B) → ((t : Items) → G (head_word t) → p (a ++ (b ++ t)) ≡ read_of x t) → f x (w ++ v) ≡ read_of y v → F (head_word v) → (p >>= f) (a ++ ((b ++ w) ++ v)) ≡ read_of y v
joined F G p f starts a b w v x y on e after =
    let g : G (head_word (w ++ v)) = starts x (w ++ v) y v e after in
    let first : p (a ++ ((b ++ w) ++ v)) ≡ read_of x (w ++ v) = ap (λ (q : Items). p (a ++ q)) (append_assoc b w v) ∙ on (w ++ v) g in
    rw first e

bind_goes : {A B : Type 0} (F G : Option Lexeme → Type 0) (p : Reader A) (f : A → Reader B) → IsReader p → IsViable G p → ((x : A) → IsViable F (f x)) → ((x : A) → Starts F G (f x)) → (ts : Items) (d : Stop) → (p >>= f) ts ≡ erred d → Goes F (p >>= f) ts d
bind_goes F G p f ip vp vf starts ts d e =
    elim (bind_err (p ts) f d e) [
      | inl e1 ↦
          let g = vp.goes ts d e1 in
          record {
            before = g.before;
            bad = g.bad;
            parts = g.parts;
            place = g.place;
            more = g.more ++ (vf g.x).word;
            spelled = spelled_append g.more (vf g.x).word g.spelled (vf g.x).spelled;
            x = (vf g.x).value;
            on = λ v after. joined F G p f starts g.before g.more (vf g.x).word v g.x (vf g.x).value g.on ((vf g.x).says v after) after;
          }
      | inr h ↦
          let a = ip.front ts h.0 h.1 h.2 in
          let g = (vf h.0).goes h.1 d h.3 in
          goes_behind F (p >>= f) (f h.0) a.0 ts h.1 d a.1 g (λ v after.
          let rest = g.before ++ (g.more ++ v) in
          let k : f h.0 rest ≡ read_of g.x v = g.on v after in
          let w : G (head_word rest) = starts h.0 rest g.x v k after in
          let first : p (a.0 ++ rest) ≡ read_of h.0 rest = vp.stays a.0 h.1 rest h.0 (ap p (sym a.1) ∙ h.2) w in
          both p f a.0 rest v h.0 g.x first k)
    ]

pub viable_bind : {A B : Type 0} (F G : Option Lexeme → Type 0) (p : Reader A) (f : A → Reader B) → IsReader p → ((x : A) → IsReader (f x)) → IsViable G p → ((x : A) → IsViable F (f x)) → ((x : A) → Starts F G (f x)) → IsViable F (p >>= f)
viable_bind F G p f ip if vp vf starts = record {
  stays = bind_stays F G p f ip if vp vf starts;
  word = vp.word ++ (vf vp.value).word;
  spelled = spelled_append vp.word (vf vp.value).word vp.spelled (vf vp.value).spelled;
  value = (vf vp.value).value;
  says = λ v after. joined F G p f starts [] vp.word (vf vp.value).word v vp.value (vf vp.value).value vp.says ((vf vp.value).says v after) after;
  goes = bind_goes F G p f ip vp vf starts;
}

pub viable_give : {A : Type 0} (F : Option Lexeme → Type 0) (x : A) → IsViable F (give x)
viable_give F x = record {
  stays = λ before u v y e after. let n = nothing_before before u (rest_is x (before ++ u) y u e) in let z = value_is x (before ++ u) y u e in rw (n, z) refl;
  word = [];
  spelled = tt;
  value = x;
  says = λ v after. refl;
  goes = λ ts d e. absurd (ok_err x ts d e);
}

-- what ends with a value, and it ends it
pub same_end : {A : Type 0} (F : Option Lexeme → Type 0) (x : A) → Starts F F (give x)
same_end F x ts y v e a = subst (λ q. F (head_word q)) (sym (rest_is x ts y v e)) a

-- the same in front of less
pub viable_narrow : {A : Type 0} (F G : Option Lexeme → Type 0) → ((w : Option Lexeme) → F w → G w) → (p : Reader A) → IsViable G p → IsViable F p
viable_narrow F G sub p v = record {
  stays = λ before u w x e after. v.stays before u w x e (sub (head_word w) after);
  word = v.word;
  spelled = v.spelled;
  value = v.value;
  says = λ w after. v.says w (sub (head_word w) after);
  goes = λ ts d e. let g = v.goes ts d e in record { before = g.before; bad = g.bad; parts = g.parts; place = g.place; more = g.more; spelled = g.spelled; x = g.x; on = λ w after. g.on w (sub (head_word w) after) };
}

-- ---- a choice by the word that is next

-- What a case owes: where it ends it ends whatever of F is next, and where it stops past its first word, the words before can go on.
pub record IsCase {A : Type 0} (F : Option Lexeme → Type 0) (q : Reader A) : Type 0 where
  pub stays : (before u v : Items) (x : A) → q (before ++ u) ≡ read_of x u → F (head_word v) → q (before ++ v) ≡ read_of x v
  pub goes : (ts : Items) (d : Stop) → q ts ≡ erred d → (d.left ≡ length ts) ⊎ Goes F q ts d

pub case_viable : {A : Type 0} (F : Option Lexeme → Type 0) (q : Reader A) → IsViable F q → IsCase F q
case_viable F q v = record { stays = v.stays; goes = λ ts d e. inr (v.goes ts d e) }

pub case_refuse : {A : Type 0} (F : Option Lexeme → Type 0) (kind : Kind) → IsCase {A = A} F (refuse kind)
case_refuse {A = A} F kind = record {
  stays = λ before u v x e after. absurd (err_ok {A = A} _ (x, u) e);
  goes = λ ts d e. let s : record { left = length ts; kind = kind } ≡ d = stop_is {A = A} _ d e in inl (sym (ap (λ (t : Stop). t.left) s));
}

-- where a choice takes no word, it reads the same in front of whatever of F is next
abbrev pub Quiet : {A : Type 0} → (Option Lexeme → Type 0) → Reader A → Type 0
Quiet {A = A} F p = (u v : Items) (x : A) → p u ≡ read_of x u → F (head_word v) → p v ≡ read_of x v

chosen_stays : {A : Type 0} (F : Option Lexeme → Type 0) (by : Option Lexeme → Reader A) → ((w : Option Lexeme) → IsCase F (by w)) → Quiet F (peek >>= by) → (before u v : Items) (x : A) → (peek >>= by) (before ++ u) ≡ read_of x u → F (head_word v) → (peek >>= by) (before ++ v) ≡ read_of x v
chosen_stays F by cases quiet [] u v x e after = quiet u v x e after
chosen_stays F by cases quiet (t ∷ before) u v x e after = (cases (Some t.lexeme)).stays (t ∷ before) u v x e after

whole_goes : {A : Type 0} (F : Option Lexeme → Type 0) (p : Reader A) (word : Items) → AreSpelled word → (value : A) → ((v : Items) → F (head_word v) → p (word ++ v) ≡ read_of value v) → (ts : Items) (d : Stop) → d.left ≡ length ts → Goes F p ts d
whole_goes F p word spelled value says ts d e = record { before = []; bad = ts; parts = refl; place = e; more = word; spelled = spelled; x = value; on = says }

chosen_from : {A : Type 0} (F : Option Lexeme → Type 0) (by : Option Lexeme → Reader A) (word : Items) → AreSpelled word → (value : A) → ((v : Items) → F (head_word v) → (peek >>= by) (word ++ v) ≡ read_of value v) → (ts : Items) (d : Stop) → (before bad : Items) → ts ≡ before ++ bad → d.left ≡ length bad → (more : Items) → AreSpelled more → (x : A) → ((v : Items) → F (head_word v) → by (head_word ts) (before ++ (more ++ v)) ≡ read_of x v) → Goes F (peek >>= by) ts d
chosen_from F by word spelled value says ts d [] bad parts place more real x on = whole_goes F (peek >>= by) word spelled value says ts d (place ∙ ap length (sym parts))
chosen_from F by word spelled value says ts d (t ∷ before) bad parts place more real x on = record {
  before = t ∷ before;
  bad = bad;
  parts = parts;
  place = place;
  more = more;
  spelled = real;
  x = x;
  on = λ v after. ap (λ (w : Option Lexeme). by w (t ∷ before ++ (more ++ v))) (sym (ap head_word parts)) ∙ on v after;
}

pub viable_choice : {A : Type 0} (F : Option Lexeme → Type 0) (by : Option Lexeme → Reader A) → ((w : Option Lexeme) → IsCase F (by w)) → Quiet F (peek >>= by) → (word : Items) → AreSpelled word → (value : A) → ((v : Items) → F (head_word v) → (peek >>= by) (word ++ v) ≡ read_of value v) → IsViable F (peek >>= by)
viable_choice F by cases quiet word spelled value says = record {
  stays = chosen_stays F by cases quiet;
  word = word;
  spelled = spelled;
  value = value;
  says = says;
  goes = λ ts d e. elim ((cases (head_word ts)).goes ts d e) [
    | inl whole ↦ whole_goes F (peek >>= by) word spelled value says ts d whole
    | inr g ↦ chosen_from F by word spelled value says ts d g.before g.bad g.parts g.place g.more g.spelled g.x g.on
  ];
}
