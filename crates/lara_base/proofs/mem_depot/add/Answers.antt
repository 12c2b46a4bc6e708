use Rattle.std.proofs.Common.{rules, ◌≡◌, ◌++◌, Some, None, get_or, List, ◌∷◌, [], refl}
use Rattle.lara_base.specs.declared.mem_depot.MemFile.{MemFile}
use Rattle.lara_base.specs.MemDepots.{place_in}
use Rattle.lara_base.proofs.HeldFiles.{add_over, add_behind}
use Rattle.lara_base.proofs.mem_depot.add.Goals as goal

pub returns-in_ok-extend_from_slice-in-Some-clause-ok :
    goal.returns-in_ok-extend_from_slice-in-Some-clause-ok
returns-in_ok-extend_from_slice-in-Some-clause-ok c =
    let files : List MemFile = c.args.files.now.items in
    let old : MemFile = c.index_mut-file.result.now in
    let placed : place_in files c.args.name.now ≡ Some c.in-Some.at = search rules in
    let is : old ≡ get_or files c.in-Some.at old = search rules in
    let grown : c.extend_from_slice.new.self ≡ old.bytes ++ c.args.bytes.now = search rules in
    add_over files c.args.name.now c.in-Some.at old c.extend_from_slice.new.self c.args.bytes.now placed is grown

pub returns-in_ok-push-in-None-clause-ok : goal.returns-in_ok-push-in-None-clause-ok
returns-in_ok-push-in-None-clause-ok c =
    let files : List MemFile = c.args.files.now.items in
    let file : MemFile = record { name = c.args.name.now; bytes = c.args.bytes.now } in
    let placed : place_in files c.args.name.now ≡ None = search rules in
    let pushed : c.push.new.self.items ≡ files ++ file ∷ [] = search rules in
    rw pushed (add_behind files c.args.name.now file placed refl)
