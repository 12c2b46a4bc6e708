-- The words of a call. They are numbered from 0.
use Rattle.std.specs.Prelude.{ℕ, List, [], ◌∷◌, Result, Ok, Err, codes, if◌then◌else◌}
use Rattle.std.specs.Str.{bytes_eq}
use Rattle.lara.specs.declared.words.Command.{Command}
use Rattle.lara.specs.declared.words.Command.TheVariants.{Run}
use Rattle.lara.specs.declared.outcome.Outcome.TheVariants.{Usage}
use Rattle.lara.specs.Stops.{Stop, stop, at_words}
use Rattle.lara_base.specs.Results.{◌>>=◌}

-- the command of this name
abbrev pub command_named : List ℕ → Result Command Stop
command_named word = if bytes_eq word (codes "run") then Ok Run else stop at_words (Usage 0)

-- no word follows the command
abbrev pub alone : List (List ℕ) → Command → Result Command Stop
alone [] command = Ok command
alone (word ∷ words) command = stop at_words (Usage 1)

-- the command that the words are; or else the first word that cannot go on to one, or the number of words where one is missing
abbrev pub command_of : List (List ℕ) → Result Command Stop
command_of [] = stop at_words (Usage 0)
command_of (word ∷ words) = do
  command ← command_named word
  alone words command
