-- What the operations of values are where the type is known: one lemma of each type's own file.
use Rattle.lara_semiring.proofs.CountKind.{zero_count, plus_count, times_count, is_zero_count, is_over_count}
use Rattle.lara_semiring.proofs.MinPlusKind.{zero_minplus, plus_minplus, times_minplus, is_zero_minplus, is_over_minplus}
use Rattle.lara_semiring.proofs.MaxMinKind.{zero_maxmin, plus_maxmin, times_maxmin, is_zero_maxmin, is_over_maxmin}
use Rattle.lara_semiring.proofs.FlagKind.{zero_flag, plus_flag, times_flag, is_zero_flag, is_over_flag}
use Rattle.lara_semiring.proofs.LastKind.{zero_last, plus_last, times_last, is_zero_last, is_over_last}
use Rattle.lara_semiring.proofs.PathKind.{zero_path, plus_path, times_path, is_zero_path, is_over_path}

pub ruleset zero_of_types = (zero_count, zero_minplus, zero_maxmin, zero_flag, zero_last, zero_path)

pub ruleset plus_of_types = (plus_count, plus_minplus, plus_maxmin, plus_flag, plus_last, plus_path)

pub ruleset times_of_types = (times_count, times_minplus, times_maxmin, times_flag, times_last, times_path)

pub ruleset is_zero_of_types = (is_zero_count, is_zero_minplus, is_zero_maxmin, is_zero_flag, is_zero_last, is_zero_path)

pub ruleset is_over_of_types = (is_over_count, is_over_minplus, is_over_maxmin, is_over_flag, is_over_last, is_over_path)
