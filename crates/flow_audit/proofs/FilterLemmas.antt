-- The files of the filters, one after another.
use Rattle.std.proofs.Common.{◌≡◌, ◌⊎◌, inl, inr, ℕ, suc, ◌+◌, ◌<◌, List, [], ◌∷◌, ◌++◌, length, take, Some, None, sym, ap, subst, ◌∙◌, arith}
use Rattle.std.specs.Prelude.{Contains, slice_get, option_map}
use Rattle.std.proofs.lemmas.Bool.{cases_lt}
use Rattle.std.proofs.lemmas.List.Elements.{All-contains}
use Rattle.std.proofs.lemmas.Option.{get_or_from_slice_get, slice_get-map, slice_get_within}
use Rattle.run_journal.specs.Image.{bytes_of}
use Rattle.run_records.specs.declared.record.Record.{Record}
use Rattle.run_records.specs.declared.act.Act.{Act}
use Rattle.slpf_rules_acts.specs.Index.{Places, place_in}
use Rattle.flow_laws.specs.Images.{IsAgent}
use Rattle.flow_audit.specs.Breaks.{ActsFit, BreaksActs}
use Rattle.flow_audit.specs.Files.{acts_of}
use Rattle.flow_audit.specs.Index.{ArePlacesOf, Tells}
use Rattle.flow_audit.specs.Parts.{AllActsFit, AreIndexes, HasAct, HasNoAct, StopsActs, StopsFilters, lists_of}
use Rattle.flow_audit.specs.declared.reading.ActFile.{ActFile}
use Rattle.flow_audit.specs.declared.verdict.Stop.{Stop}
use Rattle.flow_audit.specs.declared.verdict.Stop.TheVariants as stop
use Rattle.flow_audit.proofs.ListLemmas.{get_front, get_last, get_none, get_one, get_take, get_there, got, take_get}

-- what holds of those before a place and of that one
next_of : (filters : List ActFile) (k j : ℕ) (f g : ActFile) → slice_get filters k ≡ Some f → slice_get (take (k + 1) filters) j ≡ Some g → (slice_get (take k filters) j ≡ Some g) ⊎ ((j ≡ k) × (f ≡ g))
next_of filters k j f g there at =
    let within = get_take filters (k + 1) j g at in
    elim (cases_lt j k) [
      | inl lt ↦ inl (take_get filters k j g lt within.1)
      | inr le ↦
          let same : j ≡ k = omega (arith, le, within.0) in
          inr (same, get_one filters k f g there (subst (λ m. slice_get filters m ≡ Some g) same within.1))
    ]

pub fit_none : (records : List Record) → AllActsFit records []
fit_none records k f is = absurd (get_none k f is)

pub fit_more : (records : List Record) (filters : List ActFile) (k : ℕ) (f : ActFile) → slice_get filters k ≡ Some f → AllActsFit records (take k filters) → ActsFit records (suc k) f.acts.items → AllActsFit records (take (k + 1) filters)
fit_more records filters k f there fit fits j g at = elim (next_of filters k j f g there at) [
  | inl old ↦ fit j g old
  | inr new ↦ subst (λ (x : ActFile). ActsFit records (suc j) x.acts.items) new.1 (subst (λ m. ActsFit records (suc m) f.acts.items) (sym new.0) fits)
]

pub no_indexes : (indexes : List Places) → AreIndexes [] indexes
no_indexes indexes k f is = absurd (get_none k f is)

pub indexes_more : (filters : List ActFile) (indexes : List Places) (k : ℕ) (f : ActFile) (index : Places) → slice_get filters k ≡ Some f → AreIndexes (take k filters) indexes → length indexes ≡ k → ArePlacesOf f.acts.items index
    → AreIndexes (take (k + 1) filters) (indexes ++ index ∷ [])
indexes_more filters indexes k f index there are many places j g at = elim (next_of filters k j f g there at) [
  | inl old ↦ let has = are j g old in record { index = has.index; there = get_front indexes index j has.index has.there; places = has.places }
  | inr new ↦ record {
    index = index;
    there = ap (slice_get (indexes ++ index ∷ [])) (new.0 ∙ sym many) ∙ get_last indexes index;
    places = subst (λ (x : ActFile). ArePlacesOf x.acts.items index) new.1 places;
  }
]

pub stops_filter : (records : List Record) (filters : List ActFile) (k : ℕ) (f : ActFile) (s : Stop) → slice_get filters k ≡ Some f → AllActsFit records (take k filters)
    → StopsActs (k + 1) (bytes_of f.entries) records f.acts.items s → StopsFilters records filters s
stops_filter records filters k f (stop.No file place) there fit (is, (n, broken, at)) = record {
  k = k;
  f = f;
  n = n;
  there = there;
  file_is = omega (arith, is);
  breaks = subst (λ a. BreaksActs records a f.acts.items n) (sym is) broken;
  at = at;
  before = fit;
}
stops_filter records filters k f (stop.Tasks place) there fit h = absurd h
stops_filter records filters k f stop.Memory there fit h = tt

-- ---- the acts of a filter

pub lists_at : (filters : List ActFile) (k : ℕ) (f : ActFile) → slice_get filters k ≡ Some f → acts_of (lists_of filters) (suc k) ≡ f.acts.items
lists_at filters k f there =
    get_or_from_slice_get (lists_of filters) k f.acts.items []
    (slice_get-map (λ (x : ActFile). x.acts.items) filters k ∙ ap (option_map (λ (x : ActFile). x.acts.items)) there)

pub index_within : (filters : List ActFile) (indexes : List Places) (k : ℕ) → AreIndexes filters indexes → k < length filters → k < length indexes
index_within filters indexes k are lt =
    let f = get_there filters k lt in
    let has = are k f.0 f.1 in
    slice_get_within indexes k has.index has.there

-- what an index tells
pub index_tells : (filters : List ActFile) (indexes : List Places) (k : ℕ) (f : ActFile) (index : Places) (run issue : ℕ) → AreIndexes filters indexes → slice_get filters k ≡ Some f → slice_get indexes k ≡ Some index
    → Tells f.acts.items run issue (place_in index run issue)
index_tells filters indexes k f index run issue are there at =
    let has = are k f there in
    subst (λ (i : Places). Tells f.acts.items run issue (place_in i run issue)) (get_one indexes k has.index index has.there at) (has.places run issue)

pub told_within : (acts : List Act) (run issue k : ℕ) → Tells acts run issue (Some k) → k < length acts
told_within acts run issue k told = slice_get_within acts k told.0 told.1

pub told_act : (filters : List ActFile) (agent k : ℕ) (f : ActFile) (run issue place : ℕ) (act : Act) → agent ≡ suc k → IsAgent agent → slice_get filters k ≡ Some f → Tells f.acts.items run issue (Some place)
    → slice_get f.acts.items place ≡ Some act → HasAct filters agent run issue act
told_act filters agent k f run issue place act is is_agent there told at =
    let same : told.0 ≡ act = get_one f.acts.items place told.0 act told.1 at in
    record {
      is_agent = is_agent;
      has = subst (λ a. Contains (acts_of (lists_of filters) a) act) (sym is) (subst (λ (l : List Act). Contains l act) (sym (lists_at filters k f there)) (got f.acts.items place act at));
      of_run = ap (λ (a : Act). a.run) (sym same) ∙ told.2;
      of_issue = ap (λ (a : Act). a.issue) (sym same) ∙ told.3;
    }

pub told_none : (filters : List ActFile) (agent k : ℕ) (f : ActFile) (run issue : ℕ) → agent ≡ suc k → slice_get filters k ≡ Some f → Tells f.acts.items run issue None → HasNoAct filters agent run issue
told_none filters agent k f run issue is there told act has =
    let mine : Contains f.acts.items act = subst (λ (l : List Act). Contains l act) (lists_at filters k f there) (subst (λ a. Contains (acts_of (lists_of filters) a) act) is has.has) in
    All-contains (λ (a : Act). a.run ≡ run → a.issue ≡ issue → ⊥) f.acts.items act told mine has.of_run has.of_issue
