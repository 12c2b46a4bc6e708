-- What holds no list and no other expression, so that to copy it takes no memory.
use Rattle.std.specs.Prelude.{Bool, true, false, not}
use Rattle.lara_key.specs.Keys.{key_holds_text}
use Rattle.lara_data.specs.declared.arg.Arg.{Arg}
use Rattle.lara_data.specs.declared.arg.Arg.TheVariants as arg
use Rattle.lara_data.specs.declared.expr.Expr.{Expr}
use Rattle.lara_data.specs.declared.expr.Expr.TheVariants as expr

-- a number, a flag, the endless distance or the absent path
abbrev pub is_atom : Expr → Bool
is_atom (expr.Number n) = true
is_atom (expr.Flag b) = true
is_atom expr.Inf = true
is_atom expr.None = true
is_atom e = false

-- a value without text, not a column
abbrev pub is_plain_arg : Arg → Bool
is_plain_arg (arg.Literal v) = not (key_holds_text v)
is_plain_arg (arg.Column n) = false
