-- Areas that share a sector.
use Rattle.std.proofs.Common.{◌≡◌, ◌<◌, ltb, max, min, IsTrue, ◌↔◌, refl, arith}
use Rattle.std.proofs.lemmas.Bool.{ltb-true, lt-ltb}
use Rattle.roster.specs.declared.area.Area.{Area}
use Rattle.roster.specs.Rosters.{Share}

pub share_back : (a b : Area) → Share a b → Share b a
share_back a b s = record { device = s.device; sector = s.sector; here = s.there; there = s.here }

-- two areas of one device share a sector exactly if the later beginning is before the earlier end
pub share_tested : (a b : Area) → a.device ≡ b.device → IsTrue (ltb (max a.from b.from) (min a.to b.to)) ↔ Share a b
share_tested a b e = (
  λ t.
      let l : max a.from b.from < min a.to b.to = ltb-true _ _ t in
      record { device = b.device; sector = max a.from b.from; here = (e, omega arith, omega (arith, l)); there = (refl, omega arith, omega (arith, l)) },
  λ s. lt-ltb _ _ (omega (arith, s.here, s.there)),
)
