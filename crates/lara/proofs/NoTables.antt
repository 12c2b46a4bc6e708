-- What holds while no table is stored.
use Rattle.std.specs.Prelude.{◌≡◌, true, List, [], map, Result, Ok, Err, IfOk, IsErrAnd, MatchResult}
use Rattle.std.proofs.Common.{refl}
use Rattle.lara_data.specs.declared.schema.Schema.{Schema}
use Rattle.lara_data.specs.declared.script.Statement.{Statement}
use Rattle.lara_data.specs.Denotations.{Database}
use Rattle.lara_data.specs.Fits.{TablesOf, ScriptFits}
use Rattle.lara_data.specs.Names.{distinct}
use Rattle.lara_data.specs.Plugins.{Plugins}

pub no_names_twice : (stored : List Schema) → stored ≡ [] → distinct (map (λ s. s.name) stored) ≡ true
unfolding distinct
no_names_twice stored none = rw none refl

-- A script that fits each database of no names fits the one without tables, also where the other case was changed.
pub fits_none : {E D : Type 0} (ps : Plugins) (stored : List Schema) (checked : Result (List Statement) E) (result : Result (List Statement) D) (Changed : E → D → Type 0) → stored ≡ [] → MatchResult checked (λ ss. result ≡ Ok ss) (λ e. IsErrAnd result (Changed e)) → IfOk checked (λ ss. (db : Database) → TablesOf stored db → ScriptFits ps db ss) → IfOk result (ScriptFits ps [])
unfolding TablesOf
fits_none ps stored (Ok ss) result Changed none same fits = rw same (fits [] (rw none tt))
fits_none ps stored (Err e) (Ok ss) Changed none same fits = absurd same
fits_none ps stored (Err e) (Err d) Changed none same fits = tt
