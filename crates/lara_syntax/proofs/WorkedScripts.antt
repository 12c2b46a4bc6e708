-- Scripts of a few bytes, with the places of their trees counted by hand.
use Rattle.std.specs.Prelude.{◌≡◌, ℕ, true, [], ◌∷◌, Some, Ok, Err, codes}
use Rattle.std.proofs.Common.{refl}
use Rattle.lara_key.specs.declared.key.KeyType.TheVariants as key_type
use Rattle.lara_semiring.specs.declared.value.ValType.TheVariants as val_type
use Rattle.lara_data.specs.declared.refusal.Kind.TheVariants.{Unexpected, BadByte}
use Rattle.lara_data.specs.declared.expr.TwoOp.{TwoOp}
use Rattle.lara_data.specs.declared.expr.TwoOp.TheVariants as two
use Rattle.lara_syntax.specs.declared.ast.AstName.{AstName}
use Rattle.lara_syntax.specs.declared.ast_expr.AstExpr.{AstExpr}
use Rattle.lara_syntax.specs.declared.ast_expr.AstForm.TheVariants as form
use Rattle.lara_syntax.specs.declared.ast.AstOp.TheVariants as op
use Rattle.lara_syntax.specs.declared.ast.AstValue.TheVariants.{Number, Text, Flag, Inf, None}
use Rattle.lara_syntax.specs.declared.ast.AstStatement.TheVariants as st
use Rattle.lara_syntax.specs.ScanSteps.{gather, gather_within}
use Rattle.lara_syntax.specs.TextContents.{content_byte}
use Rattle.lara_syntax.specs.FixedWords.{keyword_of, sign_of}
use Rattle.lara_syntax.specs.TokenWords.{name_word, number_word, text_word, one_sign, sign_word, word_at, item_here, stop_at}
use Rattle.lara_syntax.specs.Tokens.{scanned, items_of, stop_of}
use Rattle.lara_syntax.specs.Steps.{turns, turns_within}
use Rattle.lara_syntax.specs.ExprReading as exprs
use Rattle.lara_syntax.specs.Reading as r
use Rattle.lara_syntax.specs.WordReading as words
use Rattle.lara_syntax.specs.Parsed.{parsed}

-- expressions, each at its place
abbrev column : ℕ → ℕ → AstExpr
column at letter = record { at = at; form = form.Column (letter ∷ []) }

abbrev number : ℕ → ℕ → AstExpr
number at n = record { at = at; form = form.Number n }

abbrev under : ℕ → TwoOp → AstExpr → AstExpr → AstExpr
under at what a b = record { at = at; form = form.Two what a b }

abbrev named : ℕ → ℕ → AstName
named at letter = record { name = letter ∷ []; at = at }

-- a literal and a print
literal_printed : parsed (codes "T=table[i:nat:v:count]{1:2;};print T by i;") ≡ Ok (record {
  statements = st.Assign 0 (named 0 84) (record {
    at = 2;
    op = op.Literal (record { keys = record { name = named 8 105; ty = key_type.Nat } ∷ []; vals = record { name = named 14 118; ty = val_type.Count } ∷ [] })
        (record { at = 23; key = record { at = 23; value = Number 1 } ∷ []; row = record { at = 25; value = Number 2 } ∷ [] } ∷ []);
  }) ∷ st.Print 29 (named 35 84) (Some (record { at = 37; names = named 40 105 ∷ [] })) ∷ [];
})
unfolding parsed items_of stop_of scanned stop_at gather gather_within item_here word_at name_word number_word sign_word one_sign sign_of keyword_of Rattle.lara_base.specs.Names.starts_name Rattle.lara_base.specs.Names.goes_on Rattle.lara_base.specs.Names.is_name Rattle.lara_base.specs.Names.is_keyword turns turns_within r.script r.statements r.next_statement r.statement words.name words.sign r.table r.operand r.inside r.leaf r.table_type r.some_key_cols r.key_col words.key_type r.comma_key_col r.val_cols r.val_col words.val_type r.comma_val_col r.some_entries r.entry_here r.entry r.some_lits r.lits words.lit r.comma_lit r.semi_entry r.some_order r.some_names r.comma_name
literal_printed = refl

-- an entry without a key is at its `:`
keyless : parsed (codes "E=table[:v:count]{:5};") ≡ Ok (record {
  statements = st.Assign 0 (named 0 69) (record {
    at = 2;
    op = op.Literal (record { keys = []; vals = record { name = named 9 118; ty = val_type.Count } ∷ [] }) (record { at = 18; key = []; row = record { at = 19; value = Number 5 } ∷ [] } ∷ []);
  }) ∷ [];
})
unfolding parsed items_of stop_of scanned stop_at gather gather_within item_here word_at name_word number_word sign_word one_sign sign_of keyword_of Rattle.lara_base.specs.Names.starts_name Rattle.lara_base.specs.Names.goes_on Rattle.lara_base.specs.Names.is_name Rattle.lara_base.specs.Names.is_keyword turns turns_within r.script r.statements r.next_statement r.statement words.name words.sign r.table r.operand r.inside r.leaf r.table_type r.some_key_cols r.key_col words.key_type r.comma_key_col r.val_cols r.val_col words.val_type r.comma_val_col r.some_entries r.entry_here r.entry r.some_lits r.lits words.lit r.comma_lit r.semi_entry r.some_order r.some_names r.comma_name
keyless = refl

-- `T=table[k:text:f:flag,p:path]{"a":true,none;:inf};`: literals and types by their words
typed_words : parsed (codes "T=table[k:text:f:flag,p:path]{\"a\":true,none;:inf};") ≡ Ok (record {
  statements = st.Assign 0 (named 0 84) (record {
    at = 2;
    op = op.Literal (record { keys = record { name = named 8 107; ty = key_type.Text } ∷ []; vals = record { name = named 15 102; ty = val_type.Flag } ∷ record { name = named 22 112; ty = val_type.Path } ∷ [] })
        (record { at = 30; key = record { at = 30; value = Text (97 ∷ []) } ∷ []; row = record { at = 34; value = Flag true } ∷ record { at = 39; value = None } ∷ [] }
        ∷ record { at = 44; key = []; row = record { at = 45; value = Inf } ∷ [] } ∷ []);
  }) ∷ [];
})
unfolding parsed items_of stop_of scanned stop_at gather gather_within item_here word_at name_word number_word text_word content_byte sign_word one_sign sign_of keyword_of Rattle.lara_base.specs.Names.starts_name Rattle.lara_base.specs.Names.goes_on Rattle.lara_base.specs.Names.is_name Rattle.lara_base.specs.Names.is_keyword turns turns_within r.script r.statements r.next_statement r.statement words.name words.sign r.table r.operand r.inside r.leaf r.table_type r.some_key_cols r.key_col words.key_type r.comma_key_col r.val_cols r.val_col words.val_type r.comma_val_col r.some_entries r.entry_here r.entry r.some_lits r.lits words.lit r.comma_lit r.semi_entry
typed_words = refl

-- a table in brackets is at its first word other than `(`
summed_join : parsed (codes "A=agg(join load B C)by;") ≡ Ok (record {
  statements = st.Assign 0 (named 0 65) (record {
    at = 2;
    op = op.Agg (record { at = 6; op = op.Join (record { at = 11; op = op.Load (named 16 66) }) (record { at = 18; op = op.Named (named 18 67) }) }) [];
  }) ∷ [];
})
unfolding parsed items_of stop_of scanned stop_at gather gather_within item_here word_at name_word number_word sign_word one_sign sign_of keyword_of Rattle.lara_base.specs.Names.starts_name Rattle.lara_base.specs.Names.goes_on Rattle.lara_base.specs.Names.is_name Rattle.lara_base.specs.Names.is_keyword turns turns_within r.script r.statements r.next_statement r.statement words.name words.sign r.table r.operand r.inside r.leaf r.operator_word words.keyword r.some_names r.comma_name
summed_join = refl

-- the pairs of a rename, of which the first follows the operand at once
renamed : parsed (codes "B=rename A a to b,c to d;") ≡ Ok (record {
  statements = st.Assign 0 (named 0 66) (record {
    at = 2;
    op = op.Rename (record { at = 9; op = op.Named (named 9 65) }) (record { old = named 11 97; new = named 16 98 } ∷ record { old = named 18 99; new = named 23 100 } ∷ []);
  }) ∷ [];
})
unfolding parsed items_of stop_of scanned stop_at gather gather_within item_here word_at name_word number_word sign_word one_sign sign_of keyword_of Rattle.lara_base.specs.Names.starts_name Rattle.lara_base.specs.Names.goes_on Rattle.lara_base.specs.Names.is_name Rattle.lara_base.specs.Names.is_keyword turns turns_within r.script r.statements r.next_statement r.statement words.name words.sign r.table r.operand r.inside r.leaf r.operator_word words.keyword r.pairs r.pair r.comma_pair
renamed = refl

-- a key that is made of another, and two values that are made of it: an expression ends at a comma and at a bracket
promoted_and_mapped : parsed (codes "B=map(promote A to k:nat=i*2)to v:count=k+1,w:flag=k<3;") ≡ Ok (record {
  statements = st.Assign 0 (named 0 66) (record {
    at = 2;
    op = op.Map (record { at = 6; op = op.Promote (record { at = 14; op = op.Named (named 14 65) }) (record { col = record { name = named 19 107; ty = key_type.Nat }; expr = under 26 two.Mul (column 25 105) (number 27 2) }) })
        (record { col = record { name = named 32 118; ty = val_type.Count }; expr = under 41 two.Add (column 40 107) (number 42 1) }
        ∷ record { col = record { name = named 44 119; ty = val_type.Flag }; expr = under 52 two.Lt (column 51 107) (number 53 3) } ∷ []);
  }) ∷ [];
})
unfolding parsed items_of stop_of scanned stop_at gather gather_within item_here word_at name_word number_word text_word content_byte sign_word one_sign sign_of keyword_of Rattle.lara_base.specs.Names.starts_name Rattle.lara_base.specs.Names.goes_on Rattle.lara_base.specs.Names.is_name Rattle.lara_base.specs.Names.is_keyword turns turns_within r.script r.statements r.next_statement r.statement words.name words.sign words.lit words.key_type words.val_type words.keyword r.key_col r.val_col r.table r.operand r.inside r.leaf r.operator_word r.def r.comma_def r.defs_from r.defs r.key_def exprs.expr exprs.disjunction exprs.negation exprs.comparison exprs.atom exprs.deeper_expr exprs.operator_sign exprs.opening
promoted_and_mapped = refl

-- a filter, whose test opens a level of the table that it stands in
filtered : parsed (codes "B=filter A where(v==1);") ≡ Ok (record {
  statements = st.Assign 0 (named 0 66) (record { at = 2; op = op.Filter (record { at = 9; op = op.Named (named 9 65) }) (under 18 two.Eq (column 17 118) (number 20 1)) }) ∷ [];
})
unfolding parsed items_of stop_of scanned stop_at gather gather_within item_here word_at name_word number_word text_word content_byte sign_word one_sign sign_of keyword_of Rattle.lara_base.specs.Names.starts_name Rattle.lara_base.specs.Names.goes_on Rattle.lara_base.specs.Names.is_name Rattle.lara_base.specs.Names.is_keyword turns turns_within r.script r.statements r.next_statement r.statement words.name words.sign words.lit words.key_type words.val_type words.keyword r.key_col r.val_col r.table r.operand r.inside r.leaf r.operator_word r.def r.comma_def r.defs_from r.defs r.key_def exprs.expr exprs.disjunction exprs.negation exprs.comparison exprs.atom exprs.deeper_expr exprs.operator_sign exprs.opening
filtered = refl

-- the end of a statement comes too early: its place is the length of the script
cut_short : parsed (codes "A=B") ≡ Err (record { at = 3; kind = Unexpected })
unfolding parsed items_of stop_of scanned stop_at gather gather_within item_here word_at name_word sign_word one_sign sign_of keyword_of Rattle.lara_base.specs.Names.starts_name Rattle.lara_base.specs.Names.goes_on Rattle.lara_base.specs.Names.is_name Rattle.lara_base.specs.Names.is_keyword turns turns_within r.script r.statements r.next_statement r.statement words.name words.sign r.table r.operand r.inside r.leaf
cut_short = refl

-- what is no token comes before the end, and a wrong word before it
no_token_first : parsed (codes "A=?") ≡ Err (record { at = 2; kind = BadByte })
unfolding parsed items_of stop_of scanned stop_at gather gather_within item_here word_at name_word sign_word one_sign sign_of keyword_of Rattle.lara_base.specs.Names.starts_name Rattle.lara_base.specs.Names.goes_on Rattle.lara_base.specs.Names.is_name Rattle.lara_base.specs.Names.is_keyword turns turns_within r.script r.statements r.next_statement r.statement words.name words.sign r.table r.operand r.inside r.leaf
no_token_first = refl

wrong_word_first : parsed (codes "A;?") ≡ Err (record { at = 1; kind = Unexpected })
unfolding parsed items_of stop_of scanned stop_at gather gather_within item_here word_at name_word sign_word one_sign sign_of keyword_of Rattle.lara_base.specs.Names.starts_name Rattle.lara_base.specs.Names.goes_on Rattle.lara_base.specs.Names.is_name Rattle.lara_base.specs.Names.is_keyword turns turns_within r.script r.statements r.next_statement r.statement words.name words.sign
wrong_word_first = refl
