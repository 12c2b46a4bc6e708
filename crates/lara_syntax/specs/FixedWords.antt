-- How keywords and signs are written.
use Rattle.std.specs.Prelude.{ℕ, Bool, List, [], ◌∷◌, codes, Option}
use Rattle.std.specs.List.{find}
use Rattle.std.specs.Str.{bytes_eq}
use Rattle.lara_syntax.specs.declared.item.Keyword.{Keyword}
use Rattle.lara_syntax.specs.declared.item.Keyword.TheVariants as key
use Rattle.lara_syntax.specs.declared.item.Sign.{Sign}
use Rattle.lara_syntax.specs.declared.item.Sign.TheVariants as sign

-- how a keyword is written
abbrev pub keyword_text : Keyword → List ℕ
keyword_text key.Agg = codes "agg"
keyword_text key.And = codes "and"
keyword_text key.Apply = codes "apply"
keyword_text key.As = codes "as"
keyword_text key.By = codes "by"
keyword_text key.Count = codes "count"
keyword_text key.Dist = codes "dist"
keyword_text key.Else = codes "else"
keyword_text key.False = codes "false"
keyword_text key.Filter = codes "filter"
keyword_text key.Flag = codes "flag"
keyword_text key.If = codes "if"
keyword_text key.Inf = codes "inf"
keyword_text key.Join = codes "join"
keyword_text key.Last = codes "last"
keyword_text key.Len = codes "len"
keyword_text key.Load = codes "load"
keyword_text key.Map = codes "map"
keyword_text key.MaxMin = codes "maxmin"
keyword_text key.MinPlus = codes "minplus"
keyword_text key.Nat = codes "nat"
keyword_text key.None = codes "none"
keyword_text key.Not = codes "not"
keyword_text key.Num = codes "num"
keyword_text key.Or = codes "or"
keyword_text key.Path = codes "path"
keyword_text key.Print = codes "print"
keyword_text key.Promote = codes "promote"
keyword_text key.Rename = codes "rename"
keyword_text key.Repeat = codes "repeat"
keyword_text key.Store = codes "store"
keyword_text key.Table = codes "table"
keyword_text key.Text = codes "text"
keyword_text key.Then = codes "then"
keyword_text key.To = codes "to"
keyword_text key.True = codes "true"
keyword_text key.Union = codes "union"
keyword_text key.Where = codes "where"
keyword_text key.With = codes "with"

-- how a sign is written
abbrev pub sign_text : Sign → List ℕ
sign_text sign.Is = codes "="
sign_text sign.Semi = codes ";"
sign_text sign.Comma = codes ","
sign_text sign.Colon = codes ":"
sign_text sign.OpenBracket = codes "["
sign_text sign.CloseBracket = codes "]"
sign_text sign.OpenBrace = codes "{"
sign_text sign.CloseBrace = codes "}"
sign_text sign.Open = codes "("
sign_text sign.Close = codes ")"
sign_text sign.Plus = codes "+"
sign_text sign.Times = codes "*"
sign_text sign.PlusPlus = codes "++"
sign_text sign.Equal = codes "=="
sign_text sign.NotEqual = codes "!="
sign_text sign.Less = codes "<"
sign_text sign.LessEqual = codes "<="
sign_text sign.Greater = codes ">"
sign_text sign.GreaterEqual = codes ">="

-- each keyword once
abbrev pub all_keywords : List Keyword
all_keywords = key.Agg ∷ key.And ∷ key.Apply ∷ key.As ∷ key.By ∷ key.Count ∷ key.Dist ∷ key.Else ∷ key.False ∷ key.Filter ∷ key.Flag ∷ key.If ∷ key.Inf ∷ key.Join ∷ key.Last ∷ key.Len ∷ key.Load ∷ key.Map ∷ key.MaxMin ∷ key.MinPlus ∷ key.Nat ∷ key.None ∷ key.Not ∷ key.Num ∷ key.Or ∷ key.Path ∷ key.Print ∷ key.Promote ∷ key.Rename ∷ key.Repeat ∷ key.Store ∷ key.Table ∷ key.Text ∷ key.Then ∷ key.To ∷ key.True ∷ key.Union ∷ key.Where ∷ key.With ∷ []

-- each sign once
abbrev pub all_signs : List Sign
all_signs = sign.Is ∷ sign.Semi ∷ sign.Comma ∷ sign.Colon ∷ sign.OpenBracket ∷ sign.CloseBracket ∷ sign.OpenBrace ∷ sign.CloseBrace ∷ sign.Open ∷ sign.Close ∷ sign.Plus ∷ sign.Times ∷ sign.PlusPlus ∷ sign.Equal ∷ sign.NotEqual ∷ sign.Less ∷ sign.LessEqual ∷ sign.Greater ∷ sign.GreaterEqual ∷ []

-- the first of a list that is written so
abbrev pub word_of : {W : Type 0} → (W → List ℕ) → List W → List ℕ → Option W
word_of text_of words text = find (λ w. bytes_eq (text_of w) text) words

-- the keyword that is written so
unfoldable pub keyword_of : List ℕ → Option Keyword
keyword_of text = word_of keyword_text all_keywords text

-- the sign that is written so
unfoldable pub sign_of : List ℕ → Option Sign
sign_of text = word_of sign_text all_signs text

-- whether two keywords are one, which their texts tell
abbrev pub same_keyword : Keyword → Keyword → Bool
same_keyword a b = bytes_eq (keyword_text a) (keyword_text b)

-- whether two signs are one, which their texts tell
abbrev pub same_sign : Sign → Sign → Bool
same_sign a b = bytes_eq (sign_text a) (sign_text b)
