use Rattle.std.proofs.Common.{length}
use Rattle.mx_worlds.proofs.listing.+lists_page.Given as goal

abbrev pub decreases-lists_page : goal.decreases-lists_page
decreases-lists_page l = length l.given.now
