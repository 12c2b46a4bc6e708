use Rattle.std.proofs.Common.{rules, ◌≡◌, length, sym, ap, ◌∙◌}
use Rattle.lara_data.specs.Tables.{Table}
use Rattle.lara_assoc.proofs.TableFacts.{length_pairs}
use Rattle.lara_assoc.proofs.assoc.Assoc.len.Goals as goal

pub returns : goal.returns
returns c =
    let here : c.len.result ≡ length c.self.inside.rows.value.entries = search rules in
    here ∙ sym (length_pairs c.self.inside.rows.value.entries) ∙ ap (λ (t : Table). length t.entries) c.self.view_is
