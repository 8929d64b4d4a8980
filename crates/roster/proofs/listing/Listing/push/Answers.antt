use Rattle.std.proofs.Common.{rules}
use Rattle.roster.proofs.Listings.{blanks_left}
use Rattle.roster.proofs.listing.Listing.push.Goals as goal

pub invariant_of-self : goal.invariant_of-self
invariant_of-self g c = (search rules, search rules, blanks_left _ _ _ _ _ c.self.invariant.2)
