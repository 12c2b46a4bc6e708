-- What stands in brackets, by the levels that are left.
use Rattle.std.proofs.Common.{◌≡◌, ℕ, zero, suc, ◌<◌, ◌-◌, refl, arith}
use Rattle.lara_data.specs.declared.refusal.Kind.TheVariants.{TooMany}
use Rattle.lara_syntax.specs.declared.item.Sign.TheVariants.{Close}
use Rattle.lara_syntax.specs.declared.count.Count.{Count}
use Rattle.lara_syntax.specs.Steps.{Items, Reader, ◌>>=◌, give, refuse, skip}
use Rattle.lara_syntax.specs.Reading.{Counted, inside, operand, table}
use Rattle.lara_syntax.specs.WordReading.{sign}

-- a table behind (
abbrev pub inside_rest : Count → ℕ → Count → ℕ → Reader Counted
inside_rest limit levels taken at = table limit levels taken >>= λ x. sign Close >>= λ end. give x

abbrev pub opened : Count → ℕ → Count → Reader Counted
opened limit levels taken = skip >>= inside_rest limit levels taken

pub inside-none : (limit : Count) (levels : ℕ) (taken : Count) (ts : Items) → levels ≡ 0 → inside limit levels taken ts ≡ refuse TooMany ts
unfolding inside
inside-none limit zero taken ts e = refl
inside-none limit (suc d) taken ts e = absurd (omega arith)

pub inside-some : (limit : Count) (levels : ℕ) (taken : Count) (ts : Items) → 0 < levels → inside limit levels taken ts ≡ opened limit (levels - 1) taken ts
unfolding inside table operand
inside-some limit zero taken ts h = absurd (omega arith)
inside-some limit (suc d) taken ts h = let e : suc d - 1 ≡ d = omega arith in rw e refl

pub ruleset inside_laws = (inside-none, inside-some)
