use Rattle.std.proofs.Common.{rules, ◌≡◌, Some, None, get_or, List, refl}
use Rattle.lara_base.specs.declared.mem_depot.MemFile.{MemFile}
use Rattle.lara_base.specs.MemDepots.{place_in}
use Rattle.lara_base.proofs.HeldFiles.{put_over, put_behind}
use Rattle.lara_base.proofs.mem_depot.put.Goals as goal

pub returns-in-Some-clause-ok : goal.returns-in-Some-clause-ok
returns-in-Some-clause-ok c =
    let files : List MemFile = c.args.files.now.items in
    let old : MemFile = c.index_mut.result.now in
    let placed : place_in files c.args.name.now ≡ Some c.in-Some.at = search rules in
    let is : old ≡ get_or files c.in-Some.at old = search rules in
    put_over files c.args.name.now c.in-Some.at old c.args.bytes placed is

pub returns-in_ok-push-in-None-clause-ok : goal.returns-in_ok-push-in-None-clause-ok
returns-in_ok-push-in-None-clause-ok c =
    let files : List MemFile = c.args.files.now.items in
    let file : MemFile = record { name = c.args.name.now; bytes = c.args.bytes } in
    let placed : place_in files c.args.name.now ≡ None = search rules in
    rw c.in_ok-push-in-None.ensures.items (put_behind files c.args.name.now file placed refl)
