use Rattle.gr_view.proofs.Puts.{place_put}
use Rattle.gr_view.proofs.laws.places_are_put.Goals as goal

pub returns : goal.returns
returns g c = λ default items place value l. place_put default items place value l
