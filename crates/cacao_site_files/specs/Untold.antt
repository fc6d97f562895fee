-- Promise: The view of a site that tells no contents.
use Rattle.std.specs.Prelude.{ℕ, List, [], Some, None, false}
use Rattle.cacao_site.specs.View.{ClockView, CountsView, DiskView, SiteView}
use Rattle.cacao_site.specs.declared.parcel.Parcel.{Parcel}

-- a disk that tells its beat and its faults
abbrev pub untold_disk : ℕ → ℕ → DiskView
untold_disk beat faults =
    record {
      told = false;
      reads = λ file. [];
      left = λ file beat image. false;
      beat = beat;
      calls = 0;
      written = 0;
      faults = faults;
      label = [];
    }

-- beside such a disk the pending parcels, the clock and the counts are told, but for the calls of `say`
abbrev pub untold_site : ℕ → ℕ → List Parcel → ClockView → CountsView → SiteView
untold_site beat faults pending clock counts = record {
  disk = untold_disk beat faults;
  link = record { puts = None; taken = None; empty_takes = None; pending = Some pending; said = None };
  clock = clock;
  counts = record counts { says = 0 };
}
