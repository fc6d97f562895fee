-- Entries that read, and runs, cut in two.
use Rattle.std.proofs.Common.{◌≡◌, List, [], ◌∷◌, ◌++◌, map, Option, Some, None, refl, sym, ◌∙◌, ap₂, ℕ}
use Rattle.std.specs.List.{AllByRecursion}
use Rattle.run_records.specs.Fields.{◌>>=◌}
use Rattle.run_records.specs.Lists.{all_read}
use Rattle.run_records.specs.declared.record.Record.{Record}
use Rattle.flow_core_rules.specs.Runs.{GoesOn}
use Rattle.flow_core_rules.specs.State.{State}
use Rattle.flow_laws.proofs.Basics.{same_some}

-- ---- entries

-- what the first of them reads as, and the others
pub record Heads {A : Type 0} (first : Option A) (behind : Option (List A)) (all : List A) : Type 0 where
  pub it : A
  pub others : List A
  pub is : all ≡ it ∷ others
  pub reads : first ≡ Some it
  pub rest : behind ≡ Some others

pub heads : {A : Type 0} (first : Option A) (behind : Option (List A)) (all : List A) → (first >>= (λ x. behind >>= (λ xs. Some (x ∷ xs)))) ≡ Some all → Heads first behind all
heads None behind all e = absurd (cc)
heads (Some x) None all e = absurd (cc)
heads (Some x) (Some xs) all e = record { it = x; others = xs; is = sym (same_some e); reads = refl; rest = refl }

-- what an entry behind written ones reads as, with what stands before it and behind it
pub record Cut {A : Type 0} (read : List ℕ → Option A) (front all : List A) (entry : List ℕ) : Type 0 where
  pub it : A
  pub back : List A
  pub is : all ≡ front ++ it ∷ back
  pub reads : read entry ≡ Some it

pub cut : {A : Type 0} (read : List ℕ → Option A) (write : A → List ℕ) (Fits : A → Type 0) → ((x : A) → Fits x → read (write x) ≡ Some x) → (front all : List A) (entry : List ℕ) (rest : List (List ℕ))
    → AllByRecursion Fits front → all_read read (map write front ++ entry ∷ rest) ≡ Some all → Cut read front all entry
cut read write Fits again [] all entry rest fits e =
    let h = heads (read entry) (all_read read rest) all e in
    record { it = h.it; back = h.others; is = h.is; reads = h.reads }
cut {A} read write Fits again (x ∷ front) all entry rest fits e =
    let h = heads (read (write x)) (all_read read (map write front ++ entry ∷ rest)) all e in
    let inner = cut read write Fits again front h.others entry rest fits.1 h.rest in
    record {
      it = inner.it;
      back = inner.back;
      is = h.is ∙ ap₂ (λ (y : A) (l : List A). y ∷ l) (same_some (sym h.reads ∙ again x fits.0)) inner.is;
      reads = inner.reads;
    }

-- ---- runs

pub record Halves (s : State) (front back : List Record) (new : State) : Type 0 where
  pub mid : State
  pub before : GoesOn s front mid
  pub behind : GoesOn mid back new

pub halves : (front back : List Record) (s new : State) → GoesOn s (front ++ back) new → Halves s front back new
halves [] back s new g = record { mid = s; before = refl; behind = g }
halves (r ∷ front) back s new g =
    let rest : Halves g.0 front back new = halves front back g.0 new g.2 in
    record { mid = rest.mid; before = (g.0, g.1, rest.before); behind = rest.behind }
