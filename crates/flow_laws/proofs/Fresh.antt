-- A run's number stays unused until its Begin is durable.
use Rattle.std.proofs.Common.{◌≡◌, ℕ, ◌≤◌, List, [], subst, arith}
use Rattle.std.specs.Prelude.{Contains}
use Rattle.cacao_site.specs.View.{SiteView}
use Rattle.cacao_site.specs.declared.parcel.Parcel.{Parcel}
use Rattle.run_records.specs.declared.record.Record.{Record}
use Rattle.flow_laws.specs.Images.{IsRecords, HasBegun}
use Rattle.flow_laws.specs.Held.{Speech}
use Rattle.flow_laws.specs.Fresh.{IsUnused, IsFresh}
use Rattle.flow_laws.specs.Beats.{Among, GainsRecord}
use Rattle.flow_laws.proofs.Basics.{not_zero}
use Rattle.flow_laws.proofs.OneList.{none_of_empty, stands_empty}
use Rattle.flow_laws.proofs.Shrink.{SamePuts}
use Rattle.flow_laws.proofs.Record.{was_empty}

unused_shrinks : (earlier : SiteView) (early : ℕ) (later : SiteView) (late : ℕ) → ((file : ℕ) → 1 ≤ file → file ≤ 16 → Among file earlier early later late)
    → SamePuts earlier early later late → (run : ℕ) → IsUnused earlier run early → IsUnused later run late
unused_shrinks earlier early later late images puts run was = record {
  acts = λ agent image acts act is left. was.acts agent image acts act is (images agent is.0 is.1 image left);
  puts = λ at parcel has. was.puts at parcel (subst (λ (l : List (ℕ × Parcel)). Contains l (at, parcel)) puts has);
}

pub fresh_shrinks : (earlier : SiteView) (early : ℕ) (later : SiteView) (late : ℕ) → ((file : ℕ) → file ≤ 16 → Among file earlier early later late)
    → SamePuts earlier early later late → (run : ℕ) → IsFresh earlier run early → IsFresh later run late
fresh_shrinks earlier early later late images puts run fresh = record {
  unused = λ image left empty. unused_shrinks earlier early later late (λ file low high. images file high) puts run (fresh.unused image (images 0 (omega arith) image left) empty);
}

pub fresh_gains : (speech : Speech) (first : ℕ) (earlier : SiteView) (early : ℕ) (later : SiteView) (late : ℕ) (records : List Record) (next : Record)
    → GainsRecord speech earlier early later late records next → (run : ℕ) → IsFresh earlier run early → IsFresh later run late
fresh_gains speech first earlier early later late records next gains run fresh = record {
  unused = λ image left empty.
      let none : records ≡ [] = was_empty speech first earlier early later late records next gains image left empty in
      let before : IsRecords gains.some.image [] = subst (λ (l : List Record). IsRecords gains.some.image l) none (gains.before gains.some.image gains.some.left) in
      unused_shrinks earlier early later late (λ file low high. gains.only.images file high (not_zero file low)) gains.only.puts run
      (fresh.unused gains.some.image gains.some.left (stands_empty gains.some.image before));
}

-- a journal that has begun
pub fresh_begun : (site : SiteView) (beat : ℕ) → HasBegun site beat → (run : ℕ) → IsFresh site run beat
fresh_begun site beat begun run = record {
  unused = λ image left empty. let there = begun image left in absurd (there.so (none_of_empty image there.records empty there.are));
}
