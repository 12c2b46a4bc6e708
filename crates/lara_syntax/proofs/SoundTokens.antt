-- What the scanner takes for a token, and for none.
use Rattle.std.proofs.Common.{◌≡◌, ◌++◌, Ok, Err}
use Rattle.lara_syntax.specs.declared.item.Lexeme.{Lexeme}
use Rattle.lara_syntax.specs.ScanSteps.{Bytes, Scan}
use Rattle.lara_syntax.specs.Spellings.{Spells, Ends, Wrong}

-- a text of the token stands in front, or what is wrong is so
abbrev pub Sound : Bytes → Scan Lexeme → Type 0
Sound bs (Ok (x, rest)) = (text : Bytes) × (bs ≡ text ++ rest) × Spells x text × Ends x rest
Sound bs (Err k) = Wrong k bs
