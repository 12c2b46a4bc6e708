-- Steps over the words that are left: each takes words from the front, or stops at one.
use Rattle.std.specs.Prelude.{◌≡◌, ℕ, zero, suc, List, [], ◌∷◌, ◌++◌, length, Option, Some, None, Result, Ok, Err}
use Rattle.lara_syntax.specs.declared.item.Item.{Item}
use Rattle.lara_syntax.specs.declared.item.Lexeme.{Lexeme}
use Rattle.lara_data.specs.declared.refusal.Kind.{Kind}
use Rattle.lara_data.specs.declared.refusal.Kind.TheVariants.{Unexpected}
use Rattle.lara_syntax.specs.declared.fault.Stop.{Stop}
use Rattle.lara_syntax.specs.declared.fault.Fault.{Fault}
use Rattle.lara_syntax.specs.declared.fault.Fault.TheVariants as faults

-- the words that are left
abbrev pub Items : Type 0
Items = List Item

-- a value and the words after it, or the word at which it stops
abbrev pub Read : Type 0 → Type 0
Read A = Result (A × Items) Stop

-- a step over the words
abbrev pub Reader : Type 0 → Type 0
Reader A = Items → Read A

-- a further step on what was read, or the stop
abbrev pub onward : {A B : Type 0} → Read A → (A → Reader B) → Read B
onward (Ok x) f = f x.0 x.1
onward (Err e) f = Err e

-- a step, and one that goes on with its value; a stop of either is the stop of both
infixl 10 ◌>>=◌
abbrev pub ◌>>=◌ : {A B : Type 0} → Reader A → (A → Reader B) → Reader B
p >>= f = λ ts. onward (p ts) f

-- gives a value and takes no word
abbrev pub give : {A : Type 0} → A → Reader A
give x = λ ts. Ok (x, ts)

-- stops at the word that is next, or at the end
abbrev pub refuse : {A : Type 0} → Kind → Reader A
refuse kind = λ ts. Err (record { left = length ts; kind = kind })

-- the word that is next, or none at the end
abbrev pub head_word : Items → Option Lexeme
head_word [] = None
head_word (t ∷ ts) = Some t.lexeme

-- the word that is next, which stays
abbrev pub peek : Reader (Option Lexeme)
peek = λ ts. Ok (head_word ts, ts)

-- the place of the first word and the words after it; at the end a stop
abbrev pub taken : Items → Read ℕ
taken [] = Err (record { left = 0; kind = Unexpected })
taken (t ∷ ts) = Ok (t.at, ts)

-- takes the next word, and gives its place
abbrev pub skip : Reader ℕ
skip = λ ts. taken ts

-- what a step makes of what the turn before gave, or none where it ends
abbrev pub turn : {S : Type 0} → Reader S → (S → Reader S) → Option S → Reader S
turn ended more None = ended
turn ended more (Some s) = more s

-- at most n turns
unfoldable pub turns_within : {S : Type 0} → (S → Reader (Option S)) → ℕ → S → Reader S
turns_within step zero s = give s
turns_within step (suc n) s = step s >>= turn (give s) (turns_within step n)

-- Turns until one gives none. Each takes a word, so there are no more than words.
unfoldable pub turns : {S : Type 0} → (S → Reader (Option S)) → S → Reader S
turns step s = λ ts. turns_within step (suc (length ts)) s ts

-- one more behind the others
abbrev pub behind : {A : Type 0} → List A → Option A → Option (List A)
behind xs None = None
behind xs (Some x) = Some (xs ++ x ∷ [])

-- a list, as far as item gives one; an item may look at those before it
abbrev pub list_from : {A : Type 0} → (List A → Reader (Option A)) → List A → Reader (List A)
list_from item xs = turns (λ ys. item ys >>= λ x. give (behind ys x)) xs

-- a list, as far as item gives one
abbrev pub items_from : {A : Type 0} → Reader (Option A) → List A → Reader (List A)
items_from item xs = list_from (λ ys. item) xs

-- the fault is where reading stops, unless memory ran out
abbrev pub Fails : {Y : Type 0} → Fault → Result Y Stop → Type 0
Fails faults.Memory read = Unit {0}
Fails (faults.Stopped s) read = read ≡ Err s

-- memory did not run out
abbrev pub HasMemory : {X : Type 0} → Result X Fault → Type 0
HasMemory (Err faults.Memory) = ⊥
HasMemory returned = Unit {0}

-- What a function returned, seen by view, is what reading gives, unless memory ran out.
abbrev pub Gives : {X Y : Type 0} → (X → Y) → Result X Fault → Result Y Stop → Type 0
Gives view (Ok x) read = read ≡ Ok (view x)
Gives view (Err e) read = Fails e read
