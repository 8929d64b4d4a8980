-- From what the calls on tables promise to what the calls on volumes do.
use Rattle.std.proofs.Common.{ℕ, List, Ok, Err, Result, Some, ap, ◌∙◌, arith, rules}
use Rattle.table.specs.declared.extent.Head.{Head}
use Rattle.table.specs.declared.extent.Slot.{Slot}
use Rattle.table.specs.declared.extent.Run.{Run}
use Rattle.table.specs.Maps.{Map}
use Rattle.table.specs.Checks.{check, end}
use Rattle.table.specs.Calls.{map_of, Leaves, Appends, Assigns, Cuts, Looks, Overlays}
use Rattle.roster.specs.declared.entry.Entries.{Entries}
use Rattle.roster.specs.declared.place.Place.{Place}
use Rattle.roster.specs.declared.refusal.RosterRefusal.{RosterRefusal}
use Rattle.roster.specs.declared.target.Target.{Target}
use Rattle.roster.specs.declared.target.Target.TheVariants.{Zero}
use Rattle.roster.specs.Targets.{shift_target, same_target, clear_target}
use Rattle.roster.specs.Places.{place_of, HasDevice, HasSet, Below, Fair, Volume}
use Rattle.roster.specs.Refusals.{number_of}
use Rattle.roster.specs.Judgements.{Resolves, TargetJudged, VolumeJudged}
use Rattle.roster.specs.Volumes.{Makes, AppendsVolume, AssignsVolume, CutsVolume, OverlaysVolume, Locates}
use Rattle.roster.proofs.Sectors.{GoodMap, volume_good, leaves_volume, good_append, good_assign, good_cut, good_over}

module _ (E : Entries) where
  made : (m : Map Target) (n : ℕ) (xs : List (Slot Target)) (h' : Head) (xs' : List (Slot Target)) → Leaves shift_target same_target m n xs h' xs' → GoodMap E m n → Makes E m n xs h' xs'
  made m n xs h' xs' left good = (left, leaves_volume E m n xs h' xs' left good)

  module _ (h : Head) (xs : List (Slot Target)) (h' : Head) (xs' : List (Slot Target)) (v : Volume E h xs) where
    old : GoodMap E (map_of shift_target h xs) h.length
    old = volume_good E h xs v

    pub append_done : (l : ℕ) (t : Target) → Appends shift_target same_target h xs l t h' xs' (Ok tt) → TargetJudged E t l (Ok tt) → AppendsVolume E h xs l t h' xs' (Ok tt)
    append_done l t a judged =
        (made _ _ xs h' xs' a.0 (good_append E (map_of shift_target h xs) h.length old t l judged.0), (a.1.0, (v, (a.1.1.1.0, (judged.1.0, (judged.1.1.0, (judged.1.1.1.0, (judged.1.1.1.1.0, a.1.1.1.1))))))))

    pub assign_done : (run : Run) (t : Target) → Assigns shift_target same_target h xs run t h' xs' (Ok tt) → TargetJudged E t run.length (Ok tt) → AssignsVolume E h xs run t h' xs' (Ok tt)
    assign_done run t a judged =
        (made _ _ xs h' xs' a.0 (good_assign E (map_of shift_target h xs) h.length old run.start run.length t judged.0), (a.1.0, (v, (a.1.1.1.0, (judged.1.0, (judged.1.1.0, (judged.1.1.1.0, (judged.1.1.1.1.0, a.1.1.1.1))))))))

    pub cut_done : (n : ℕ) → Cuts shift_target same_target h xs n h' xs' (Ok tt) → CutsVolume E h xs n h' xs' (Ok tt)
    cut_done n a = (made _ _ xs h' xs' a.0 (good_cut E (map_of shift_target h xs) h.length old n a.1.1.0), (v, a.1.1))

  -- what is fair for its sector fails no check
  unrefused : (t : Target) (k : ℕ) → Fair E t → check 5 (HasDevice E t) (check 6 (HasSet E t) (check 7 (Below E t) end)) (Some k) → ⊥
  unrefused t k fair refused = grind (rules, fair, refused)

  pub located : (h : Head) (xs : List (Slot Target)) (i : ℕ) (t : Target) → VolumeJudged E h xs (Ok tt) → Looks shift_target same_target h xs i (Ok t) → (r : Result Place RosterRefusal) → Resolves E t r → Locates E h xs i r
  located h xs i t judged looks (Ok p) found = (λ d. found.0 ∙ ap (place_of E) (looks.0 d), (judged.1.0, looks.1.1))
  located h xs i t judged looks (Err e) refused =
      let good = volume_good E h xs judged.1.0 Zero i looks.1.1.0 in
      absurd (unrefused t (number_of e) (rw (looks.0 Zero) good.0) refused.1)

  module _ (t : Head) (tops : List (Slot Target)) (b : Head) (bases : List (Slot Target)) (h : Head) (xs : List (Slot Target)) (h' : Head) (xs' : List (Slot Target)) where
    pub overlay_done : Overlays shift_target same_target clear_target t tops b bases h xs h' xs' (Ok tt) → Volume E t tops → Volume E b bases → OverlaysVolume E t tops b bases h xs h' xs' (Ok tt)
    overlay_done a top base =
        let level = a.1.1.0 in
        (made _ _ xs h' xs' a.0 (good_over E (map_of shift_target t tops) t.length (volume_good E t tops top) (map_of shift_target b bases) (λ d i lt. volume_good E b bases base d i (omega (arith, level)))), ((top, base), a.1.1))
