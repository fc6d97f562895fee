-- Promise: What holds of each site that tells no contents.
use Rattle.std.proofs.Common.{ℕ, List}
use Rattle.std.proofs.lemmas.Bool.{false≢true}
use Rattle.cacao_site.specs.Sound.{IsSound}
use Rattle.cacao_site.specs.View.{ClockView, CountsView}
use Rattle.cacao_site.specs.declared.parcel.Parcel.{Parcel}
use Rattle.cacao_site_files.specs.Untold.{untold_site}

pub untold-sound : (beat faults : ℕ) (pending : List Parcel) (clock : ClockView) (counts : CountsView)
    → IsSound (untold_site beat faults pending clock counts)
untold-sound beat faults pending clock counts = record {
  reads = λ file told. absurd (false≢true told);
  images = λ file at told le. absurd (false≢true told);
  puts = record { past = tt; in_order = tt };
  taken = record { past = tt; in_order = tt };
  said = record { past = tt; in_order = tt };
  pending = tt;
  was_put = tt;
}
