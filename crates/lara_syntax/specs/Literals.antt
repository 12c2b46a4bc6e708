-- Which literals the columns of each type take, and which values they stand for.
use Rattle.std.specs.Prelude.{◌≡◌, ◌<◌, Bool, true, false, nat_lt}
use Rattle.lara_base.specs.Texts.{is_content}
use Rattle.lara_base.specs.declared.text.Text.TheVariants as text
use Rattle.lara_key.specs.declared.key.KeyType.{KeyType}
use Rattle.lara_key.specs.declared.key.KeyType.TheVariants as key_type
use Rattle.lara_key.specs.declared.key.KeyVal.{KeyVal}
use Rattle.lara_key.specs.declared.key.KeyVal.TheVariants as key
use Rattle.lara_key.specs.Keys.{nat_over}
use Rattle.lara_semiring.specs.Counts.{count_over}
use Rattle.lara_semiring.specs.MinPlus.{minplus_over, minplus_inf}
use Rattle.lara_semiring.specs.MaxMin.{maxmin_over}
use Rattle.lara_semiring.specs.declared.path.PathText.TheVariants as path
use Rattle.lara_semiring.specs.declared.value.ValType.{ValType}
use Rattle.lara_semiring.specs.declared.value.ValType.TheVariants as val_type
use Rattle.lara_semiring.specs.declared.value.Value.{Value}
use Rattle.lara_semiring.specs.declared.value.Value.TheVariants as value
use Rattle.lara_syntax.specs.declared.ast.AstValue.{AstValue}
use Rattle.lara_syntax.specs.declared.ast.AstValue.TheVariants.{Number, Text, Flag, Inf, None}

-- the literal is of the kind that a key column takes
abbrev pub is_key_lit : KeyType → AstValue → Bool
is_key_lit key_type.Nat (Number n) = true
is_key_lit key_type.Text (Text bs) = true
is_key_lit key_type.Flag (Flag b) = true
is_key_lit t other = false

-- the literal is of the kind that a value column takes
abbrev pub is_val_lit : ValType → AstValue → Bool
is_val_lit val_type.Count (Number n) = true
is_val_lit val_type.MinPlus (Number n) = true
is_val_lit val_type.MinPlus Inf = true
is_val_lit val_type.MaxMin (Number n) = true
is_val_lit val_type.Flag (Flag b) = true
is_val_lit val_type.Last (Text bs) = true
is_val_lit val_type.Path (Text bs) = true
is_val_lit val_type.Path None = true
is_val_lit t other = false

-- a number is below what stands for all past the range of the key column, and a text is one of at most 1,024 bytes
abbrev pub is_key_in_range : KeyType → AstValue → Bool
is_key_in_range key_type.Nat (Number n) = nat_lt n nat_over
is_key_in_range key_type.Text (Text bs) = is_content bs
is_key_in_range t other = true

-- a number is below what stands for all past the range of the value column, and a text is one of at most 1,024 bytes
abbrev pub is_val_in_range : ValType → AstValue → Bool
is_val_in_range val_type.Count (Number n) = nat_lt n count_over
is_val_in_range val_type.MinPlus (Number n) = nat_lt n minplus_over
is_val_in_range val_type.MaxMin (Number n) = nat_lt n maxmin_over
is_val_in_range val_type.Last (Text bs) = is_content bs
is_val_in_range val_type.Path (Text bs) = is_content bs
is_val_in_range t other = true

-- the key value of a literal; of one of another kind it is some value
abbrev pub key_value : KeyType → AstValue → KeyVal
key_value key_type.Nat (Number n) = key.Nat n
key_value key_type.Text (Text bs) = key.Text (text.Within bs)
key_value key_type.Flag (Flag b) = key.Flag b
key_value t other = key.Nat 0

-- the value of a literal in a row; of one of another kind it is some value
abbrev pub row_value : ValType → AstValue → Value
row_value val_type.Count (Number n) = value.Count n
row_value val_type.MinPlus (Number n) = value.MinPlus n
row_value val_type.MinPlus Inf = value.MinPlus minplus_inf
row_value val_type.MaxMin (Number n) = value.MaxMin n
row_value val_type.Flag (Flag b) = value.Flag b
row_value val_type.Last (Text bs) = value.Last (text.Within bs)
row_value val_type.Path (Text bs) = value.Path (path.Within bs)
row_value val_type.Path None = value.Path path.Absent
row_value t other = value.Count 0

-- ---- what a literal stands for, as one relation

-- the literal is the key column's value
abbrev pub IsKey : KeyType → AstValue → KeyVal → Type 0
IsKey key_type.Nat (Number n) k = (n < nat_over) × (k ≡ key.Nat n)
IsKey key_type.Text (Text bs) k = (is_content bs ≡ true) × (k ≡ key.Text (text.Within bs))
IsKey key_type.Flag (Flag b) k = k ≡ key.Flag b
IsKey t other k = ⊥

-- the literal is the value column's value
abbrev pub IsVal : ValType → AstValue → Value → Type 0
IsVal val_type.Count (Number n) v = (n < count_over) × (v ≡ value.Count n)
IsVal val_type.MinPlus (Number n) v = (n < minplus_over) × (v ≡ value.MinPlus n)
IsVal val_type.MinPlus Inf v = v ≡ value.MinPlus minplus_inf
IsVal val_type.MaxMin (Number n) v = (n < maxmin_over) × (v ≡ value.MaxMin n)
IsVal val_type.Flag (Flag b) v = v ≡ value.Flag b
IsVal val_type.Last (Text bs) v = (is_content bs ≡ true) × (v ≡ value.Last (text.Within bs))
IsVal val_type.Path (Text bs) v = (is_content bs ≡ true) × (v ≡ value.Path (path.Within bs))
IsVal val_type.Path None v = v ≡ value.Path path.Absent
IsVal t other v = ⊥
