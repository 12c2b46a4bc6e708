use Rattle.lara_types.proofs.each_trees.promote_made.Goals as goal

pub promote_columns-requires : goal.promote_columns-requires
promote_columns-requires c = rw c.in_ok-def.ensures c.requires
