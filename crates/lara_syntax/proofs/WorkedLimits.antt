-- The limits of a script: what is the last that may stand, and the first that may not.
use Rattle.std.specs.Prelude.{◌≡◌, ℕ, zero, suc, List, [], ◌∷◌, None}
use Rattle.std.proofs.Common.{refl}
use Rattle.lara_data.specs.declared.refusal.Kind.TheVariants.{Unexpected, TooMany}
use Rattle.lara_syntax.specs.declared.item.Item.{Item}
use Rattle.lara_syntax.specs.declared.item.Lexeme.{Lexeme}
use Rattle.lara_syntax.specs.declared.item.Lexeme.TheVariants as lex
use Rattle.lara_syntax.specs.declared.item.Keyword.TheVariants as key
use Rattle.lara_syntax.specs.declared.item.Sign.TheVariants as sign
use Rattle.lara_syntax.specs.declared.ast.AstName.{AstName}
use Rattle.lara_syntax.specs.declared.ast.AstStatement.{AstStatement}
use Rattle.lara_syntax.specs.declared.ast.AstStatement.TheVariants as st
use Rattle.lara_syntax.specs.declared.ast.AstOp.TheVariants as op
use Rattle.lara_syntax.specs.Limits.{most, none_counted}
use Rattle.lara_syntax.specs.Places.{node}
use Rattle.lara_syntax.specs.Steps.{Items, turns, turns_within}
use Rattle.lara_syntax.specs.Reading as r
use Rattle.lara_syntax.specs.WordReading as words
use Rattle.lara_syntax.proofs.Turns.{read_of, erred}

-- a word of no place
abbrev word : Lexeme → Item
word w = record { at = 0; len = 0; lexeme = w }

abbrev a : AstName
a = record { name = 97 ∷ []; at = 0 }

-- ---- operators

last_operator : r.operator_word most.counted (record { operators = 63; signs = 1024 }) (word (lex.Key key.Join) ∷ []) ≡ read_of 0 []
unfolding r.operator_word
last_operator = refl

operator_too_many : r.operator_word most.counted (record { operators = 64; signs = 0 }) (word (lex.Key key.Join) ∷ []) ≡ erred (record { left = 1; kind = TooMany })
unfolding r.operator_word
operator_too_many = refl

-- ---- levels

-- the name `a` in so many brackets
abbrev opened : ℕ → Items → Items
opened zero ts = ts
opened (suc n) ts = word (lex.Sign sign.Open) ∷ opened n ts

abbrev closed : ℕ → Items → Items
closed zero ts = ts
closed (suc n) ts = word (lex.Sign sign.Close) ∷ closed n ts

last_level : r.operand most.counted most.levels none_counted (opened 64 (word (lex.Name (97 ∷ [])) ∷ closed 64 [])) ≡ read_of (node 0 (op.Named a), none_counted) []
unfolding r.operand r.inside r.leaf words.name words.sign
last_level = refl

level_too_many : r.operand most.counted most.levels none_counted (opened 65 (word (lex.Name (97 ∷ [])) ∷ closed 65 [])) ≡ erred (record { left = 67; kind = TooMany })
unfolding r.operand r.inside r.leaf words.name words.sign
level_too_many = refl

-- ---- statements

-- so many prints
abbrev prints : ℕ → List AstStatement
prints zero = []
prints (suc n) = st.Print 0 a None ∷ prints n

-- behind 255 the next may begin, and the end comes too early
last_statement : r.statements most (prints 255) (word (lex.Key key.Print) ∷ []) ≡ erred (record { left = 0; kind = Unexpected })
unfolding r.statements r.next_statement r.statement words.name turns turns_within
last_statement = refl

-- behind 256 it may not
statement_too_many : r.statements most (prints 256) (word (lex.Key key.Print) ∷ []) ≡ erred (record { left = 1; kind = TooMany })
unfolding r.statements r.next_statement turns turns_within
statement_too_many = refl

-- and what begins no statement is not expected there either
no_statement : r.statements most (prints 256) (word (lex.Sign sign.Semi) ∷ []) ≡ erred (record { left = 1; kind = Unexpected })
unfolding r.statements r.next_statement turns turns_within
no_statement = refl
