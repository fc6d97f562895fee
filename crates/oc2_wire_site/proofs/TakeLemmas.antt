-- What a take does.
use Rattle.std.proofs.Common.{◌≡◌, ◌≢◌, ◌⊎◌, ◌∙◌, inl, inr, Bool, true, false, List, [], ◌∷◌, ◌++◌, refl, ap, sym, subst, arith}
use Rattle.std.specs.Prelude.{Option, None, Result, Ok, Err, IfOk, IfErr, OnOk, OnErr}
use Rattle.std.proofs.lemmas.List.{map-append}
use Rattle.cacao_site.specs.View.{SiteView}
use Rattle.cacao_site.specs.declared.parcel.Parcel.{Parcel}
use Rattle.oc2_wire_site.specs.Entries.{taken_by}
use Rattle.oc2_wire_site.specs.LineLinks.{AsksOne, BreaksFirst, LinesView, ReadsOn, ReadsOne, TakesBy, taken_of}
use Rattle.oc2_wire_site.specs.declared.entries.Taken.{Taken}
use Rattle.oc2_wire_site.specs.declared.link_state.LinkState.{LinkState}
use Rattle.oc2_wire_site.specs.declared.link_state.LinkState.TheVariants as state
use Rattle.oc2_wire_site.proofs.PassLemmas.{breaks_over, breaks_soon, passed_none}
use Rattle.oc2_wire_site.proofs.LineLemmas.{breaks_unread}

-- ---- over the link

lines_same : (old new : LinesView) → new.link ≡ old.link → new.unread ≡ old.unread → new.passed ≡ old.passed → new.state ≡ old.state → new ≡ old
lines_same old new link unread passed is = λ i. record { link = link i; unread = unread i; passed = passed i; state = is i }

-- the link was broken before
pub takes_broken : (asking owed : Bool) (lines : LinesView) → lines.state ≢ state.Whole → TakesBy asking owed None lines lines
takes_broken asking owed lines broken = record {
  broken = λ same. (refl, refl);
  unowed = λ asks none. (refl, record { link = refl; reading = record { unread = refl; passed = refl }; stays = inl refl });
  asks = λ asks owes whole. absurd (broken whole);
  answers = λ answers whole. absurd (broken whole);
}

-- no line was owed
pub takes_unowed : (asking owed : Bool) (lines : LinesView) → asking ≡ true → owed ≡ false → TakesBy asking owed None lines lines
takes_unowed asking owed lines asks none = record {
  broken = λ same. (refl, refl);
  unowed = λ is no_line. (refl, record { link = refl; reading = record { unread = refl; passed = refl }; stays = inl refl });
  asks = λ is owes whole. absurd (cc (none, owes));
  answers = λ answers whole. absurd (cc (asks, answers));
}

pub takes_answering : (asking owed : Bool) (taken : Option Parcel) (old new : LinesView) → asking ≡ false → old.state ≡ state.Whole → ReadsOn taken old new → TakesBy asking owed taken old new
takes_answering asking owed taken old new answers whole reads = record {
  broken = λ broken. absurd (broken whole);
  unowed = λ asks none. absurd (cc (asks, answers));
  asks = λ asks owes is. absurd (cc (asks, answers));
  answers = λ same is. reads;
}

pub takes_asking : (asking owed : Bool) (taken : Option Parcel) (old new : LinesView) → asking ≡ true → owed ≡ true → old.state ≡ state.Whole → AsksOne taken old new → TakesBy asking owed taken old new
takes_asking asking owed taken old new asks owes whole reads = record {
  broken = λ broken. absurd (broken whole);
  unowed = λ same none. absurd (cc (owes, none));
  asks = λ same is whole_too. reads;
  answers = λ answers is. absurd (cc (asks, answers));
}

pub asks_one : (read : Result (Option Parcel) LinkState) (old new : LinesView) → IfOk read (λ taken. ReadsOne true taken old new) → OnErr read (BreaksFirst old new) → AsksOne (taken_of read) old new
asks_one (Ok taken) old new one broken = inl one
asks_one (Err stop) old new one broken = inr (refl, broken)

pub whole_read : (read : Result (Option Parcel) LinkState) (old new : LinesView) → IfOk read (λ taken. ReadsOne true taken old new) → OnOk read (new.state ≡ state.Whole)
whole_read (Ok taken) old new one = one.whole
whole_read (Err stop) old new one = tt

stays_or_wants : (old new : LinkState) → (old ≢ state.Whole → new ≡ old) → (old ≡ state.Whole → new ≡ state.NoMemory) → (new ≡ old) ⊎ (new ≡ state.NoMemory)
stays_or_wants state.Whole new first now = inr (now refl)
stays_or_wants state.Ended new first now = inl (first (λ e. absurd (cc)))
stays_or_wants state.Failed new first now = inl (first (λ e. absurd (cc)))
stays_or_wants state.TooLong new first now = inl (first (λ e. absurd (cc)))
stays_or_wants state.PassedOver new first now = inl (first (λ e. absurd (cc)))
stays_or_wants state.NoMemory new first now = inl (first (λ e. absurd (cc)))

-- memory was wanted first
pub takes_unmade : (asking owed : Bool) (old new : LinesView) → new.link ≡ old.link → new.unread ≡ old.unread → new.passed ≡ old.passed → (old.state ≢ state.Whole → new.state ≡ old.state) → (old.state ≡ state.Whole → new.state ≡ state.NoMemory) → TakesBy asking owed None old new
takes_unmade asking owed old new link unread passed first now = record {
  broken = λ broken. (refl, lines_same old new link unread passed (first broken));
  unowed = λ asks none. (refl, record { link = link; reading = record { unread = unread; passed = passed }; stays = stays_or_wants old.state new.state first now });
  asks = λ asks owes whole. inr (refl, breaks_unread old new link unread passed (now whole));
  answers = λ answers whole. breaks_over 0 old old new (omega arith) (passed_none old whole) (breaks_soon old new (breaks_unread old new link unread passed (now whole)));
}

-- ---- what is answered

pub wants_by : {E : Type 0} (result : Result (Option Parcel) E) (read : Result (Option Parcel) LinkState) (now : LinkState) → OnErr result (read ≡ Err state.NoMemory) → IfErr read (λ stop. now ≡ stop) → OnErr result (now ≡ state.NoMemory)
wants_by (Ok taken) read now why says = tt
wants_by (Err error) read now why says = subst (λ (r : Result (Option Parcel) LinkState). IfErr r (λ stop. now ≡ stop)) why says

stops_else : (read : Result (Option Parcel) LinkState) (now before : LinkState) → read ≢ Err state.NoMemory → IfErr read (λ stop. now ≡ stop) → OnOk read (now ≡ state.Whole) → now ≡ state.NoMemory → before ≡ state.NoMemory
stops_else (Ok taken) now before other says whole e = absurd (cc (whole, e))
stops_else (Err stop) now before other says whole e = absurd (other (ap Err (sym says ∙ e)))

pub wanted_by : {E : Type 0} (result : Result (Option Parcel) E) (read : Result (Option Parcel) LinkState) (now before : LinkState) → OnOk result (read ≢ Err state.NoMemory) → IfErr read (λ stop. now ≡ stop) → OnOk read (now ≡ state.Whole)
    → OnOk result (now ≡ state.NoMemory → before ≡ state.NoMemory)
wanted_by (Ok taken) read now before other says whole = λ e. stops_else read now before other says whole e
wanted_by (Err error) read now before other says whole = tt

-- ---- the lists

module _ {S : Type 0} (view : S → SiteView) (site : S) where
  pub taken_more : (entry : Taken S) (taken made got : List (Taken S)) → entry.at.value ≡ site → made ≡ taken → got ≡ made ++ entry ∷ [] → taken_by view got ≡ taken_by view taken ++ ((view site).disk.beat, entry.parcel.value) ∷ []
  taken_more entry taken made got at same e =
      ap (λ (l : List (Taken S)). taken_by view l) (e ∙ ap (λ (l : List (Taken S)). l ++ entry ∷ []) same)
      ∙ map-append (λ (t : Taken S). ((view t.at.value).disk.beat, t.parcel.value)) taken (entry ∷ [])
      ∙ ap (λ (x : S). taken_by view taken ++ ((view x).disk.beat, entry.parcel.value) ∷ []) at
