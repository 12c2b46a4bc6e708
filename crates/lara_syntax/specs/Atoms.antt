-- What holds no name, no text and no other expression, so that to copy it takes no memory.
use Rattle.std.specs.Prelude.{Bool, true, false, List, [], ◌∷◌, IsTrue}
use Rattle.lara_syntax.specs.declared.ast.AstValue.{AstValue}
use Rattle.lara_syntax.specs.declared.ast.AstValue.TheVariants as value
use Rattle.lara_syntax.specs.declared.ast_expr.AstForm.{AstForm}
use Rattle.lara_syntax.specs.declared.ast_expr.AstForm.TheVariants as form
use Rattle.lara_syntax.specs.declared.ast_part.AstArg.{AstArg}
use Rattle.lara_syntax.specs.declared.ast_part.AstArg.TheVariants as arg
use Rattle.lara_syntax.specs.declared.ast_part.AstArgValue.{AstArgValue}
use Rattle.lara_syntax.specs.declared.ast_part.AstArgValue.TheVariants as arg_value
use Rattle.lara_syntax.specs.declared.item.Item.{Item}
use Rattle.lara_syntax.specs.declared.item.Lexeme.{Lexeme}
use Rattle.lara_syntax.specs.declared.item.Lexeme.TheVariants as lex
use Rattle.lara_syntax.specs.declared.token.TokenWord.{TokenWord}
use Rattle.lara_syntax.specs.declared.token.TokenWord.TheVariants as word

-- a value that is no text
abbrev pub is_plain_value : AstValue → Bool
is_plain_value (value.Text content) = false
is_plain_value v = true

-- the value of an argument that is no text
abbrev pub is_plain_arg_value : AstArgValue → Bool
is_plain_arg_value (arg_value.Text content) = false
is_plain_arg_value v = true

-- a value that is no text, not a column
abbrev pub is_plain_arg : AstArg → Bool
is_plain_arg (arg.Literal lit) = is_plain_arg_value lit.value
is_plain_arg (arg.Column name) = false

-- a number, a flag, `inf` or `none`
abbrev pub is_atom : AstForm → Bool
is_atom (form.Number n) = true
is_atom (form.Flag b) = true
is_atom form.Inf = true
is_atom form.None = true
is_atom f = false

-- a token that is no text
abbrev pub is_plain_word : TokenWord → Bool
is_plain_word (word.Text content) = false
is_plain_word w = true

-- a word that is no text
abbrev pub is_plain_lexeme : Lexeme → Bool
is_plain_lexeme (lex.Text content) = false
is_plain_lexeme w = true

-- none of the words is a text
abbrev pub HoldNoText : List Item → Type 0
HoldNoText [] = Unit {0}
HoldNoText (t ∷ ts) = IsTrue (is_plain_lexeme t.lexeme) × HoldNoText ts
