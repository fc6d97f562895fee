-- What an append of an act's bytes says of the acts.
use Rattle.std.proofs.Common.{◌≡◌, ◌⊎◌, inl, ℕ, ◌+◌, ◌^◌, ◌<◌, ◌≤◌, Bool, List, [], ◌∷◌, ◌++◌, length, Result, Err, refl, sym, subst, ap, ap₂, ◌∙◌, arith}
use Rattle.std.specs.Prelude.{IsErrOf}
use Rattle.cacao_site.specs.declared.parcel.Parcel.{Parcel}
use Rattle.cacao_site.specs.DiskCalls.{OnlyFile}
use Rattle.cacao_site.specs.View.{DiskView, SiteView}
use Rattle.cacao_site.proofs.Beats.{each-start, rest-refl}
use Rattle.run_journal.specs.declared.error.JournalError.{JournalError}
use Rattle.run_journal.specs.declared.error.JournalError.TheVariants.{Broken, Damaged, Memory}
use Rattle.run_journal.specs.JournalView.{JournalView}
use Rattle.run_journal.specs.Layout.{Stands, StandsBeforeOrAfter}
use Rattle.run_records.specs.declared.act.Act.{Act}
use Rattle.run_records.specs.Layout.{act_layout}
use Rattle.run_records.specs.Ranges.{ActInRange}
use Rattle.run_records.proofs.EntryLemmas.{acts_are_short}
use Rattle.slpf_rules.specs.Laws.{RepliesAreFinal}
use Rattle.slpf_rules_acts.specs.Acts.{table_of}
use Rattle.slpf_actuator_acts.specs.ActLists.{IsHistory, entries_of}
use Rattle.slpf_actuator_acts.specs.Adding.{HoldsWith, MayAdd}
use Rattle.slpf_actuator_acts.specs.ActuatorView.{IsReady, act_for, moment_for, view_over}
use Rattle.run_journal.specs.Durable.{MayAppend, header_bytes, header_calls}
use Rattle.slpf_actuator_acts.proofs.ActLemmas.{entries_push, final_reply, moment_of_last_fits}

-- the entries with one more are those of the acts with one more
pub entries_with : (items : List (List ℕ)) (entry : List ℕ) (acts : List Act) (act : Act) → items ≡ entries_of acts → entry ≡ act_layout act
    → items ++ entry ∷ [] ≡ entries_of (acts ++ act ∷ [])
entries_with items entry acts act p q = ap₂ (λ (l : List (List ℕ)) (e : List ℕ). l ++ e ∷ []) p q ∙ sym (entries_push acts act)

pub only_acts : (file : ℕ) (old new : SiteView) (items : List (List ℕ)) (entry : List ℕ) (acts : List Act) (act : Act) → items ≡ entries_of acts → entry ≡ act_layout act
    → OnlyFile file old new (StandsBeforeOrAfter items entry) → OnlyFile file old new (HoldsWith acts act)
only_acts file old new items entry acts act p q only =
    subst (λ (l : List (List ℕ)). OnlyFile file old new (λ image. Stands image (entries_of acts) ⊎ Stands image l)) (entries_with items entry acts act p q)
    (subst (λ (l : List (List ℕ)). OnlyFile file old new (λ image. Stands image l ⊎ Stands image (items ++ entry ∷ []))) p only)

same_images : (disk : DiskView) (file beat : ℕ) (image : List ℕ) → disk.beat ≤ beat → beat ≤ disk.beat → disk.left file beat image ≡ disk.left file disk.beat image
same_images disk file beat image from until =
    let same : beat ≡ disk.beat = omega (arith, from, until) in
    ap (λ (n : ℕ). disk.left file n image) same

-- what an append of its bytes says of an act, where room was made before
pub adds_act : (j k : JournalView) (entry : List ℕ) (acts : List Act) (act : Act) (old new : SiteView) → k.file ≡ j.file → k.items ≡ j.items → k.prepared ≡ j.prepared
    → j.items ≡ entries_of acts → entry ≡ act_layout act → MayAppend k entry old new → MayAdd (view_over j acts) act old new
adds_act j k entry acts act old new file items prepared is laid_out appends = record {
  file = subst (λ (n : ℕ). OnlyFile n old new (HoldsWith acts act)) file (only_acts k.file old new k.items entry acts act (items ∙ is) laid_out appends.file);
  calls = subst (λ (b : Bool). new.disk.calls ≤ old.disk.calls + (header_calls b + 4)) prepared appends.calls;
  written = subst (λ (e : List ℕ). new.disk.written ≤ old.disk.written + (header_bytes j.prepared + (length e + 6))) laid_out
      (subst (λ (b : Bool). new.disk.written ≤ old.disk.written + (header_bytes b + (length entry + 6))) prepared appends.written);
}

-- a site that stays may have got any act
pub adds_none : (j : JournalView) (acts : List Act) (act : Act) (site : SiteView) → IsReady (view_over j acts) site → MayAdd (view_over j acts) act site site
adds_none j acts act site ready = record {
  file = record {
    each = each-start site.disk j.file (HoldsWith acts act) (λ told image left. inl (ready.images refl told image left).0);
    others = λ other ne. record { reads = refl; images = same_images site.disk other };
    rest = rest-refl site;
  };
  calls = omega arith;
  written = omega arith;
}

-- ---- the act on a command

pub act_fits : RepliesAreFinal → (acts : List Act) (command : Parcel) (moment : ℕ) → IsHistory acts → command.run < 2 ^ 64 → command.issue < 2 ^ 32
    → moment ≤ 9_000_000_000_000_000 → length command.bytes ≤ 1_048_576 → ActInRange (act_for acts command moment)
act_fits law acts command moment history p q r s = record {
  run_fits = p;
  issue_fits = q;
  moment_fits = omega (arith, r, moment_of_last_fits acts history);
  short_command = s;
  short_reply = (final_reply law (table_of acts) command.bytes (moment_for acts moment)).short;
}

pub entry_fits : (act : Act) → ActInRange act → length (act_layout act) ≤ 17_829_888
entry_fits act fits = omega (arith, acts_are_short act fits)

-- an append never answers that the value was broken, nor that the file is damaged, and neither does what hands its refusals on
pub no_other_stays : (r : Result (Unit {0}) JournalError) (f : JournalError) → (e : JournalError) × (r ≡ Err e) × (e ≡ f)
    → ((place : ℕ) → (IsErrOf {T = Unit {0}} (Err f) Broken → ⊥) × (IsErrOf {T = Unit {0}} (Err f) Memory → ⊥) × (IsErrOf {T = Unit {0}} (Err f) (Damaged place) → ⊥))
    → (place : ℕ) → (IsErrOf r Broken → ⊥) × (IsErrOf r (Damaged place) → ⊥)
no_other_stays r f (e, is, from) other place = (
  λ h. let same : f ≡ Broken = cc in (other place).0 (ap (λ (x : JournalError). Err x) same),
  λ h. let same : f ≡ Damaged place = cc in (other place).2 (ap (λ (x : JournalError). Err x) same),
)
