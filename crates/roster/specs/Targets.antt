-- What shift, same and clear mean for targets. Sectors and offsets have 64 bits, so they count modulo 2 to the power 64.
use Rattle.std.specs.Prelude.{ℕ, ◌+◌, ◌%◌, ◌^◌, Bool, true, false, ◌&&◌, ◌==◌}
use Rattle.roster.specs.declared.target.Target.{Target}
use Rattle.roster.specs.declared.target.Target.TheVariants.{Zero, Error, Linear, Striped}

-- the target k sectors further on
abbrev pub shift_target : Target → ℕ → Target
shift_target Zero k = Zero
shift_target Error k = Error
shift_target (Linear d s) k = Linear d ((s + k) % 2 ^ 64)
shift_target (Striped n o) k = Striped n ((o + k) % 2 ^ 64)

-- all parts are equal
abbrev pub same_target : Target → Target → Bool
same_target Zero Zero = true
same_target Error Error = true
same_target (Linear d s) (Linear e t) = d == e && s % 2 ^ 64 == t % 2 ^ 64
same_target (Striped n o) (Striped m p) = n == m && o % 2 ^ 64 == p % 2 ^ 64
same_target _ _ = false

-- only error lets an overlay's base show through
abbrev pub clear_target : Target → Bool
clear_target Error = true
clear_target _ = false
