-- The files, one after another.
use Rattle.std.proofs.Common.{◌≡◌, ℕ, zero, suc, ◌-◌, ◌+◌, ◌<◌, ◌≤◌, List, [], ◌∷◌, ◌++◌, refl, sym, subst, ◌∙◌, arith, inl, inr, length-append}
use Rattle.run_journal.specs.Image.{bytes_of}
use Rattle.run_journal.specs.declared.entries.Entry.{Entry}
use Rattle.run_records.specs.declared.record.Record.{Record}
use Rattle.run_records.specs.Ranges.{ActInRange, InRange}
use Rattle.run_records.specs.Reading.{act_of, record_of}
use Rattle.flow_audit.specs.Files.{IsFirstBadFile, IsGoodFile, image_of}
use Rattle.flow_audit.specs.Parts.{AreFilters, IsFileOf, StopsFile, StopsReading}
use Rattle.flow_audit.specs.declared.reading.ActFile.{ActFile}
use Rattle.flow_audit.specs.declared.verdict.Stop.{Stop}
use Rattle.flow_audit.specs.declared.verdict.Stop.TheVariants as stop
use Rattle.flow_audit.proofs.ListLemmas.{get_none, get_push, get_there}

pub first_bad : (files : List (List ℕ)) (s : Stop) → StopsFile record_of 0 (image_of files 0) s → StopsReading files s
first_bad files (stop.No at place) (is, bad) =
    subst (λ f. IsFirstBadFile files f place) (sym is) (record { within = omega arith; bad = bad; before = λ k lt. absurd (omega (arith, lt)) })
first_bad files (stop.Tasks place) h = absurd h
first_bad files stop.Memory h = tt

pub later_bad : (files : List (List ℕ)) (agent : ℕ) (entries : List Entry) (records : List Record) (filters : List ActFile) (s : Stop) → 1 ≤ agent → agent ≤ 16
    → IsFileOf record_of InRange (image_of files 0) entries records → AreFilters files (agent - 1) filters → StopsFile act_of agent (image_of files agent) s → StopsReading files s
later_bad files zero entries records filters s low high journal are h = absurd (omega (arith, low))
later_bad files (suc n) entries records filters (stop.No at place) low high journal are (is, bad) =
    subst (λ f. IsFirstBadFile files f place) (sym is) (record { within = high; bad = bad; before = good })
  where
    good : (k : ℕ) → k < suc n → IsGoodFile files k
    good zero lt = (records, record { entries = bytes_of entries; stands = journal.stands; reads = journal.reads })
    good (suc j) lt =
        let f = get_there filters j (omega (arith, lt, are.many)) in
        let is_file = are.each j f.0 f.1 in
        (f.0.acts.items, record { entries = bytes_of f.0.entries; stands = is_file.stands; reads = is_file.reads })
later_bad files (suc n) entries records filters (stop.Tasks place) low high journal are h = absurd h
later_bad files (suc n) entries records filters stop.Memory low high journal are h = tt

pub no_filters : (files : List (List ℕ)) → AreFilters files 0 []
no_filters files = record { many = refl; each = λ n f is. absurd (get_none n f is) }

pub filters_push : (files : List (List ℕ)) (n : ℕ) (filters : List ActFile) (f : ActFile) → AreFilters files n filters → IsFileOf act_of ActInRange (image_of files (suc n)) f.entries f.acts.items
    → AreFilters files (suc n) (filters ++ f ∷ [])
filters_push files n filters f are is = record {
  many = omega (arith, length-append filters (f ∷ []), are.many);
  each = λ k g at. elim (get_push filters f k g at) [
    | inl old ↦ are.each k g old.1
    | inr new ↦
        subst (λ (x : ActFile). IsFileOf act_of ActInRange (image_of files (suc k)) x.entries x.acts.items) new.1
        (subst (λ m. IsFileOf act_of ActInRange (image_of files (suc m)) f.entries f.acts.items) (sym (new.0 ∙ are.many)) is)
  ];
}

-- the file of the next agent
pub filters_more : (files : List (List ℕ)) (agent : ℕ) (filters : List ActFile) (f : ActFile) → 1 ≤ agent → AreFilters files (agent - 1) filters → IsFileOf act_of ActInRange (image_of files agent) f.entries f.acts.items
    → AreFilters files (agent + 1 - 1) (filters ++ f ∷ [])
filters_more files agent filters f low are is =
    let back : agent ≡ suc (agent - 1) = omega (arith, low) in
    let on : suc (agent - 1) ≡ agent + 1 - 1 = omega (arith, low) in
    subst (λ m. AreFilters files m (filters ++ f ∷ [])) on
    (filters_push files (agent - 1) filters f are (subst (λ m. IsFileOf act_of ActInRange (image_of files m) f.entries f.acts.items) back is))
