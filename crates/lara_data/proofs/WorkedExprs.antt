-- Expressions worked out by hand from the table of their forms.
use Rattle.std.specs.Prelude.{◌≡◌, true, false, List, [], ◌∷◌, map, Ok, Err}
use Rattle.std.proofs.Common.{refl}
use Rattle.lara_base.specs.Texts.{is_content}
use Rattle.lara_base.specs.declared.text.Text.TheVariants as text
use Rattle.lara_key.specs.declared.key.KeyType.TheVariants as key_ty
use Rattle.lara_key.specs.declared.key.KeyVal.TheVariants as key
use Rattle.lara_semiring.specs.declared.path.PathText.TheVariants as path
use Rattle.lara_semiring.specs.declared.value.ValType.TheVariants as ty
use Rattle.lara_semiring.specs.declared.value.Value.TheVariants as value
use Rattle.lara_data.specs.declared.expr.Expr.{Expr}
use Rattle.lara_data.specs.declared.expr.Expr.TheVariants.{Column, Number, Text, Flag, Inf, None, Two, Not, If, Fun}
use Rattle.lara_data.specs.declared.expr.TwoOp.TheVariants as two
use Rattle.lara_data.specs.declared.expr.FunOp.TheVariants as fun
use Rattle.lara_data.specs.declared.expr_val.ExprType.TheVariants as type
use Rattle.lara_data.specs.declared.expr_val.ExprVal.{ExprVal}
use Rattle.lara_data.specs.declared.expr_val.ExprVal.TheVariants as val
use Rattle.lara_data.specs.declared.refusal.Kind.TheVariants.{NoName, NotInRange, TypesDiffer}
use Rattle.lara_data.specs.KeyedTables.{Row}
use Rattle.lara_data.specs.TableTypes.{Columns}
use Rattle.lara_data.specs.Names.{Name, Tuple, same_name, has, read}
use Rattle.lara_data.specs.ExprTypes.{ExprTyping, key_column_type, val_column_type, expr_type}
use Rattle.lara_data.specs.ExprValues.{row_column, value_of, to_key, to_val}

i : Name
i = 105 ∷ []

s : Name
s = 115 ∷ []

v : Name
v = 118 ∷ []

d : Name
d = 100 ∷ []

p : Name
p = 112 ∷ []

f : Name
f = 102 ∷ []

-- [i: nat, s: text : v: count, d: minplus, p: path, f: flag]
columns : Columns
columns = record {
  keys = record { name = i; ty = key_ty.Nat } ∷ record { name = s; ty = key_ty.Text } ∷ [];
  vals = record { name = v; ty = ty.Count } ∷ record { name = d; ty = ty.MinPlus } ∷ record { name = p; ty = ty.Path } ∷ record { name = f; ty = ty.Flag } ∷ [];
}

-- 7,"ab":3,inf,none,true
tuple : Tuple
tuple = key.Nat 7 ∷ key.Text (text.Within (97 ∷ 98 ∷ [])) ∷ []

row : Row
row = value.Count 3 ∷ value.MinPlus 18446744073709551615 ∷ value.Path path.Absent ∷ value.Flag true ∷ []

-- an entry with all that can be past its range: over,over:over,over,over,false
far_tuple : Tuple
far_tuple = key.Nat 18446744073709551615 ∷ key.Text text.Over ∷ []

far_row : Row
far_row = value.Count 18446744073709551615 ∷ value.MinPlus 18446744073709551614 ∷ value.Path path.Over ∷ value.Flag false ∷ []

b : Expr
b = Text (98 ∷ [])

most_number : Expr
most_number = Number 18446744073709551614

m : Name
m = 109 ∷ []

-- [f: flag : m: maxmin, s: last]
others : Columns
others = record { keys = record { name = f; ty = key_ty.Flag } ∷ []; vals = record { name = m; ty = ty.MaxMin } ∷ record { name = s; ty = ty.Last } ∷ [] }

-- true:9,"b"
other_tuple : Tuple
other_tuple = key.Flag true ∷ []

other_row : Row
other_row = value.MaxMin 9 ∷ value.Last (text.Within (98 ∷ [])) ∷ []

-- an expression with what it comes to
abbrev Worth : Type 0
Worth = Expr × ExprVal

-- an expression with its type, or the kind of the first rule that it breaks
abbrev Typed : Type 0
Typed = Expr × ExprTyping

-- ---- values

values : List Worth
values =
    -- columns of the key and of the row
    (Column i, val.Number 7) ∷
    -- i + v
    (Two two.Add (Column i) (Column v), val.Number 10) ∷
    -- the greatest number and one more is past the range
    (Two two.Add most_number (Number 1), val.Number 18446744073709551615) ∷
    -- 0 times a number past the range is 0
    (Two two.Mul (Number 0) (Two two.Add most_number (Number 1)), val.Number 0) ∷
    -- the sum of distances is the lesser: d + dist(5)
    (Two two.Add (Column d) (Fun fun.Dist (Number 5)), val.MinPlus 5) ∷
    -- the product of distances is the way through both: dist(5) * dist(6)
    (Two two.Mul (Fun fun.Dist (Number 5)) (Fun fun.Dist (Number 6)), val.MinPlus 11) ∷
    -- inf * dist(6)
    (Two two.Mul Inf (Fun fun.Dist (Number 6)), val.MinPlus 18446744073709551615) ∷
    -- p + path("b") over an absent p
    (Two two.Add (Column p) (Fun fun.Path b), val.Path (path.Within (98 ∷ []))) ∷
    -- path(s) * path("b")
    (Two two.Mul (Fun fun.Path (Column s)) (Fun fun.Path b), val.Path (path.Within (97 ∷ 98 ∷ 98 ∷ []))) ∷
    -- s ++ "b"
    (Two two.Cat (Column s) b, val.Text (text.Within (97 ∷ 98 ∷ 98 ∷ []))) ∷
    -- "b" > "ab": texts by bytes, not by length
    (Two two.Gt b (Column s), val.Flag true) ∷
    -- path("b") < path("ab"): paths by length first
    (Two two.Lt (Fun fun.Path b) (Fun fun.Path (Column s)), val.Flag true) ∷
    -- 7 <= 7
    (Two two.Le (Column i) (Number 7), val.Flag true) ∷
    -- 7 < 7
    (Two two.Lt (Column i) (Number 7), val.Flag false) ∷
    -- 7 >= 8
    (Two two.Ge (Column i) (Number 8), val.Flag false) ∷
    -- d == inf
    (Two two.Eq (Column d) Inf, val.Flag true) ∷
    -- p != none
    (Two two.Ne (Column p) None, val.Flag false) ∷
    -- false < f
    (Two two.Lt (Flag false) (Column f), val.Flag true) ∷
    -- f and false
    (Two two.And (Column f) (Flag false), val.Flag false) ∷
    -- f or false
    (Two two.Or (Column f) (Flag false), val.Flag true) ∷
    -- not f
    (Not (Column f), val.Flag false) ∷
    -- if f then 1 else 2
    (If (Column f) (Number 1) (Number 2), val.Number 1) ∷
    -- if not f then 1 else 2
    (If (Not (Column f)) (Number 1) (Number 2), val.Number 2) ∷
    -- num(dist(5))
    (Fun fun.Num (Fun fun.Dist (Number 5)), val.Number 5) ∷
    -- num(inf) is past the range
    (Fun fun.Num Inf, val.Number 18446744073709551615) ∷
    -- num(f)
    (Fun fun.Num (Column f), val.Number 1) ∷
    -- the greatest distance
    (Fun fun.Dist (Number 18446744073709551613), val.MinPlus 18446744073709551613) ∷
    -- the greatest number is past the range of distances
    (Fun fun.Dist most_number, val.MinPlus 18446744073709551614) ∷
    -- and its number past the range of numbers
    (Fun fun.Num (Fun fun.Dist most_number), val.Number 18446744073709551615) ∷
    -- len(s)
    (Fun fun.Len (Column s), val.Number 2) ∷
    -- text(path(s))
    (Fun fun.Text (Fun fun.Path (Column s)), val.Text (text.Within (97 ∷ 98 ∷ []))) ∷
    -- text(none) is empty
    (Fun fun.Text None, val.Text (text.Within [])) ∷
    -- columns of the key and of the row
    (Column s, val.Text (text.Within (97 ∷ 98 ∷ []))) ∷
    -- columns of the key and of the row
    (Column p, val.Path path.Absent) ∷
    []

-- each comes to this over 7,"ab":3,inf,none,true
values_are : map (λ (c : Worth). value_of columns tuple row c.0) values ≡ map (λ (c : Worth). c.1) values
unfolding values i s v d p f m b most_number columns tuple row far_tuple far_row others other_tuple other_row value_of row_column same_name has read denote.Hole.Carrier.hidden Rattle.lara_data.specs.declared.expr.Expr.TheBlock.hidden-the_row-Expr-0
values_are = refl

values_past : List Worth
values_past =
    -- len(s) of a text past its range
    (Fun fun.Len (Column s), val.Number 18446744073709551615) ∷
    -- path(s)
    (Fun fun.Path (Column s), val.Path path.Over) ∷
    -- text(p) of a path past its range
    (Fun fun.Text (Column p), val.Text text.Over) ∷
    -- num(d) of a distance past its range
    (Fun fun.Num (Column d), val.Number 18446744073709551615) ∷
    -- dist(v) of a number past its range
    (Fun fun.Dist (Column v), val.MinPlus 18446744073709551614) ∷
    -- num(f)
    (Fun fun.Num (Column f), val.Number 0) ∷
    -- "b" ++ s
    (Two two.Cat b (Column s), val.Text text.Over) ∷
    -- s ++ "b"
    (Two two.Cat (Column s) b, val.Text text.Over) ∷
    -- "b" < s: past its range is behind every text
    (Two two.Lt b (Column s), val.Flag true) ∷
    -- s == s
    (Two two.Eq (Column s) (Column s), val.Flag true) ∷
    -- the greatest number is before what is past its range
    (Two two.Lt most_number (Column i), val.Flag true) ∷
    -- d < inf: past its range is before no way at all
    (Two two.Lt (Column d) Inf, val.Flag true) ∷
    -- d > dist(7)
    (Two two.Gt (Column d) (Fun fun.Dist (Number 7)), val.Flag true) ∷
    -- p < none
    (Two two.Lt (Column p) None, val.Flag true) ∷
    -- p >= path("b")
    (Two two.Ge (Column p) (Fun fun.Path b), val.Flag true) ∷
    -- v + 1
    (Two two.Add (Column v) (Number 1), val.Number 18446744073709551615) ∷
    -- v * 2
    (Two two.Mul (Column v) (Number 2), val.Number 18446744073709551615) ∷
    -- d + inf
    (Two two.Add (Column d) Inf, val.MinPlus 18446744073709551614) ∷
    -- d * dist(7)
    (Two two.Mul (Column d) (Fun fun.Dist (Number 7)), val.MinPlus 18446744073709551614) ∷
    -- p * path("b")
    (Two two.Mul (Column p) (Fun fun.Path b), val.Path path.Over) ∷
    -- none * p
    (Two two.Mul None (Column p), val.Path path.Absent) ∷
    -- p + path("b")
    (Two two.Add (Column p) (Fun fun.Path b), val.Path (path.Within (98 ∷ []))) ∷
    -- f or false
    (Two two.Or (Column f) (Flag false), val.Flag false) ∷
    -- f != true
    (Two two.Ne (Column f) (Flag true), val.Flag true) ∷
    []

-- each comes to this where all that can be is past its range
values_past_are : map (λ (c : Worth). value_of columns far_tuple far_row c.0) values_past ≡ map (λ (c : Worth). c.1) values_past
unfolding values_past i s v d p f m b most_number columns tuple row far_tuple far_row others other_tuple other_row value_of row_column same_name has read denote.Hole.Carrier.hidden Rattle.lara_data.specs.declared.expr.Expr.TheBlock.hidden-the_row-Expr-0
values_past_are = refl

values_of_others : List Worth
values_of_others =
    -- a width reads as a number
    (Column m, val.Number 9) ∷
    -- a latest text as a text
    (Column s, val.Text (text.Within (98 ∷ []))) ∷
    -- a key of flags as a flag
    (Column f, val.Flag true) ∷
    []

-- each comes to this over true:9,"b"
values_of_others_are : map (λ (c : Worth). value_of others other_tuple other_row c.0) values_of_others ≡ map (λ (c : Worth). c.1) values_of_others
unfolding values_of_others i s v d p f m b most_number columns tuple row far_tuple far_row others other_tuple other_row value_of row_column same_name has read denote.Hole.Carrier.hidden Rattle.lara_data.specs.declared.expr.Expr.TheBlock.hidden-the_row-Expr-0
values_of_others_are = refl

-- ---- types

typings : List Typed
typings =
    -- i + v is a number
    (Two two.Add (Column i) (Column v), Ok type.Number) ∷
    -- s == "b" is a flag
    (Two two.Eq (Column s) b, Ok type.Flag) ∷
    -- a name that is no column's
    (Column (122 ∷ []), Err NoName) ∷
    -- a number that stands for all past the range
    (Number 18446744073709551615, Err NotInRange) ∷
    -- i + d
    (Two two.Add (Column i) (Column d), Err TypesDiffer) ∷
    -- s + s
    (Two two.Add (Column s) (Column s), Err TypesDiffer) ∷
    -- f + f
    (Two two.Add (Column f) (Column f), Err TypesDiffer) ∷
    -- of two broken sides the left one is told: (i + d) * z
    (Two two.Mul (Two two.Add (Column i) (Column d)) (Column (122 ∷ [])), Err TypesDiffer) ∷
    -- not i
    (Not (Column i), Err TypesDiffer) ∷
    -- if f then i else d
    (If (Column f) (Column i) (Column d), Err TypesDiffer) ∷
    -- if i then i else v
    (If (Column i) (Column i) (Column v), Err TypesDiffer) ∷
    -- if f then i else v is a number
    (If (Column f) (Column i) (Column v), Ok type.Number) ∷
    -- dist(v) is a distance
    (Fun fun.Dist (Column v), Ok type.MinPlus) ∷
    -- num(s)
    (Fun fun.Num (Column s), Err TypesDiffer) ∷
    -- v + v
    (Two two.Add (Column v) (Column v), Ok type.Number) ∷
    -- v * v
    (Two two.Mul (Column v) (Column v), Ok type.Number) ∷
    -- d + d
    (Two two.Add (Column d) (Column d), Ok type.MinPlus) ∷
    -- d * d
    (Two two.Mul (Column d) (Column d), Ok type.MinPlus) ∷
    -- p + p
    (Two two.Add (Column p) (Column p), Ok type.Path) ∷
    -- p * p
    (Two two.Mul (Column p) (Column p), Ok type.Path) ∷
    -- numbers compared
    (Two two.Eq (Column v) (Column v), Ok type.Flag) ∷
    -- numbers compared
    (Two two.Ge (Column v) (Column v), Ok type.Flag) ∷
    -- distances compared
    (Two two.Ne (Column d) (Column d), Ok type.Flag) ∷
    -- paths compared
    (Two two.Lt (Column p) (Column p), Ok type.Flag) ∷
    -- texts compared
    (Two two.Le (Column s) (Column s), Ok type.Flag) ∷
    -- flags compared
    (Two two.Gt (Column f) (Column f), Ok type.Flag) ∷
    -- s ++ s
    (Two two.Cat (Column s) (Column s), Ok type.Text) ∷
    -- p ++ p
    (Two two.Cat (Column p) (Column p), Err TypesDiffer) ∷
    -- s * s
    (Two two.Mul (Column s) (Column s), Err TypesDiffer) ∷
    -- f and f
    (Two two.And (Column f) (Column f), Ok type.Flag) ∷
    -- f or f
    (Two two.Or (Column f) (Column f), Ok type.Flag) ∷
    -- v and v
    (Two two.And (Column v) (Column v), Err TypesDiffer) ∷
    -- v or v
    (Two two.Or (Column v) (Column v), Err TypesDiffer) ∷
    -- num(d)
    (Fun fun.Num (Column d), Ok type.Number) ∷
    -- num(f)
    (Fun fun.Num (Column f), Ok type.Number) ∷
    -- len(s)
    (Fun fun.Len (Column s), Ok type.Number) ∷
    -- path(s)
    (Fun fun.Path (Column s), Ok type.Path) ∷
    -- text(p)
    (Fun fun.Text (Column p), Ok type.Text) ∷
    -- dist(d)
    (Fun fun.Dist (Column d), Err TypesDiffer) ∷
    -- len(p)
    (Fun fun.Len (Column p), Err TypesDiffer) ∷
    -- path(p)
    (Fun fun.Path (Column p), Err TypesDiffer) ∷
    -- text(s)
    (Fun fun.Text (Column s), Err TypesDiffer) ∷
    -- inf, none and true are of their types: if true then d == inf else p == none
    (If (Flag true) (Two two.Eq (Column d) Inf) (Two two.Eq (Column p) None), Ok type.Flag) ∷
    -- a column of flags
    (Column f, Ok type.Flag) ∷
    []

-- each is of this type, or is refused so
typings_are : map (λ (c : Typed). expr_type columns c.0) typings ≡ map (λ (c : Typed). c.1) typings
unfolding typings i s v d p f m b most_number columns others expr_type key_column_type val_column_type same_name is_content denote.Hole.Carrier.hidden Rattle.lara_data.specs.declared.expr.Expr.TheBlock.hidden-the_row-Expr-0
typings_are = refl

typings_of_others : List Typed
typings_of_others =
    -- and so are their types
    (Column m, Ok type.Number) ∷
    -- the latest text
    (Column s, Ok type.Text) ∷
    -- the key
    (Column f, Ok type.Flag) ∷
    []

-- each is of this type
typings_of_others_are : map (λ (c : Typed). expr_type others c.0) typings_of_others ≡ map (λ (c : Typed). c.1) typings_of_others
unfolding typings_of_others i s v d p f m b most_number columns others expr_type key_column_type val_column_type same_name is_content denote.Hole.Carrier.hidden Rattle.lara_data.specs.declared.expr.Expr.TheBlock.hidden-the_row-Expr-0
typings_of_others_are = refl

-- ---- in columns

-- values in key columns and in value columns of their types
in_keys : to_key key_ty.Nat (val.Number 9) ∷ to_key key_ty.Text (val.Text text.Over) ∷ to_key key_ty.Flag (val.Flag true) ∷ [] ≡ key.Nat 9 ∷ key.Text text.Over ∷ key.Flag true ∷ []
in_keys = refl

in_rows :
    to_val ty.Count (val.Number 9) ∷ to_val ty.MinPlus (val.MinPlus 9) ∷ to_val ty.MaxMin (val.Number 9) ∷ to_val ty.Flag (val.Flag true) ∷ to_val ty.Last (val.Text text.Over) ∷ to_val ty.Path (val.Path path.Absent) ∷ []
    ≡ value.Count 9 ∷ value.MinPlus 9 ∷ value.MaxMin 9 ∷ value.Flag true ∷ value.Last text.Over ∷ value.Path path.Absent ∷ []
in_rows = refl
