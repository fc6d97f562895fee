-- A call on a site that was lent, which is known again by its label, was one on the site itself.
use Rattle.std.proofs.Common.{◌≡◌, ℕ, List, ◌∷◌, subst, sym}
use Rattle.cacao_site.specs.View.{DiskView, SiteView, lent_disk, lent_site}
use Rattle.cacao_site.specs.DiskCalls.{GoesOn, OnlyFile}

goes_on-back : {a b : DiskView} (name name' : ℕ) → GoesOn (lent_disk name a) (lent_disk name' b) → GoesOn a b
goes_on-back {a} {b} name name' on = record {
  told = on.told;
  later = on.later;
  past = on.past;
  calls = on.calls;
  written = on.written;
  faults = on.faults;
  label = same_rest _ _ _ _ on.label;
}
  where
    same_rest : (n m : ℕ) (l k : List ℕ) → n ∷ l ≡ m ∷ k → l ≡ k
    same_rest n m l k e = cc

-- a call on what was lent, which is known again by its label, was one on the site itself
pub lent_back : (name name' file : ℕ) (P : List ℕ → Type 0) (before a b after : SiteView) → a ≡ before → (name' ≡ name → after ≡ b)
    → OnlyFile file (lent_site name a) (lent_site name' b) P → OnlyFile file before after P
lent_back name name' file P before a b after is end only =
    let label = only.each.goes_on.label in
    let here : OnlyFile file a b P = record {
      each = record { goes_on = goes_on-back name name' only.each.goes_on; each = only.each.each };
      others = λ other ne. record { reads = (only.others other ne).reads; images = (only.others other ne).images };
      rest = record { link = only.rest.link; clock = only.rest.clock; counts = only.rest.counts };
    } in
    let there = subst (λ (s : SiteView). OnlyFile file s b P) is here in
    subst (λ (s : SiteView). OnlyFile file before s P) (sym (end (same_name _ _ _ _ label))) there
  where
    same_name : (n m : ℕ) (l k : List ℕ) → n ∷ l ≡ m ∷ k → n ≡ m
    same_name n m l k e = cc
