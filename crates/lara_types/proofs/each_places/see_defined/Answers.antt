use Rattle.lara_data.specs.TableTypes.{key_names}
use Rattle.lara_types.proofs.DefinedWalks.{key_again, past_keys}
use Rattle.lara_types.proofs.each_places.see_defined.Goals as goal

pub returns-then-is_key_name-clause-gives : goal.returns-then-is_key_name-clause-gives
returns-then-is_key_name-clause-gives c = λ names held. rw c.refused.ensures (key_again (key_names c.args.keys.now) names c.args.name.now c.if-is_key_name.ensures)

pub returns-clause-gives : goal.returns-clause-gives
returns-clause-gives c = λ names held. past_keys (key_names c.args.keys.now) names c.args.name.now _ c.if-is_key_name.ensures (c.see.ensures.gives names held)
