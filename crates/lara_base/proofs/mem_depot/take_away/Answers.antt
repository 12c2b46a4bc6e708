use Rattle.std.proofs.Common.{rules, not}
use Rattle.std.proofs.lemmas.Fn.{filter_same}
use Rattle.lara_base.specs.declared.mem_depot.MemFile.{MemFile}
use Rattle.lara_base.specs.Depots.{same_name}
use Rattle.lara_base.proofs.HeldFiles.{put_away}
use Rattle.lara_base.proofs.mem_depot.take_away.Goals as goal

pub returns : goal.returns
returns c = rw (filter_same _ (λ (file : MemFile). not (same_name file.name c.args.name.now)) _ (λ x b f' k. search rules) _ _ c.retain.ensures.filtered) (put_away _ _)
