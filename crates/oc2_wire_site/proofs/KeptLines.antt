-- What a wire has read and sent, from one moment to a later one.
use Rattle.std.proofs.Common.{◌≡◌, ◌≢◌, ◌⊎◌, ◌∙◌, ◌≤◌, ℕ, ◌+◌, inl, inr, Bool, true, false, List, [], ◌∷◌, ◌++◌, length, drop, Option, Some, None, refl, ap, sym, subst, arith, length-append, suc}
use Rattle.std.specs.Prelude.{All, map}
use Rattle.std.proofs.Math.Logic.{∥∥₁_map}
use Rattle.std.proofs.lemmas.List.{append-nil, append_assoc, drop-append-le, drop_all, length-map, length_push, map-append}
use Rattle.cacao_site.specs.View.{SiteView}
use Rattle.cacao_site.specs.declared.parcel.Parcel.{Parcel}
use Rattle.oc2_wire_link.specs.Links.{LinkView}
use Rattle.oc2_wire_lines.specs.Lines.{IsOther, Reads, carries, passes, line_of}
use Rattle.oc2_wire_site.specs.Entries.{puts_by, taken_by}
use Rattle.oc2_wire_site.specs.LineLinks.{AsksOne, FailsToSend, LinesView, ReadsOn, SendsAll, TakesBy, passed_after}
use Rattle.oc2_wire_site.specs.Marks.{WireMark}
use Rattle.oc2_wire_site.specs.ReadLines.{Carry, none_read, takes_one, passes_one, HasRead, HasReadSince, HasSent, HasSentSince, lines_of_parcels, parcels_behind}
use Rattle.oc2_wire_site.specs.declared.entries.Put.{Put}
use Rattle.oc2_wire_site.specs.declared.entries.Taken.{Taken}
use Rattle.oc2_wire_site.specs.declared.link_state.LinkState.{LinkState}
use Rattle.oc2_wire_site.specs.declared.link_state.LinkState.TheVariants as state
use Rattle.oc2_wire_site.proofs.ByteLemmas.{gains_none, gains_on, gains_to}
use Rattle.oc2_wire_site.proofs.LineLemmas.{reads_none, reads_then}

-- ---- lines and the parcels that they carry

pub carry_on : (back : Bool) (xs ys : List (List ℕ)) (ps qs : List Parcel) → Carry back xs ps → Carry back ys qs → Carry back (xs ++ ys) (ps ++ qs)
carry_on back [] ys [] qs none_read second = second
carry_on back [] ys (_ ∷ _) qs none second = elim none [ ]
carry_on back (_ ∷ _) ys (_ ∷ _) qs (takes_one line parcel lines parcels spells way rest) second = takes_one line parcel (lines ++ ys) (parcels ++ qs) spells way (carry_on back lines ys parcels qs rest second)
carry_on back (_ ∷ _) ys ps qs (passes_one line lines parcels other rest) second = passes_one line (lines ++ ys) (parcels ++ qs) other (carry_on back lines ys parcels qs rest second)

carry_over : (back : Bool) (over : List (List ℕ)) → All (IsOther back) over → Carry back over []
carry_over back [] each = none_read
carry_over back (line ∷ over) each = passes_one line over [] (each 0 line (omega arith)) (carry_over back over (λ k d lt. each (suc k) d (omega (arith, lt))))

-- what one take took
abbrev pub listed : Option Parcel → List Parcel
listed (Some parcel) = parcel ∷ []
listed None = []

carry_one : (back : Bool) (line : List ℕ) (taken : Option Parcel) → Reads back line taken → Carry back (line ∷ []) (listed taken)
carry_one back line (Some _) (carries parcel spells way) = takes_one line parcel [] [] spells way none_read
carry_one back line None (passes other) = passes_one line [] [] other none_read

-- ---- what was read

read_none : (asking : Bool) (old new : LinesView) → new.link ≡ old.link → new.unread ≡ old.unread → new.passed ≡ old.passed → HasRead asking old new []
read_none asking old new link unread passed = record {
  read = [];
  lines = reads_none old new (ap (λ (l : LinkView). l.received) link) (ap (λ (l : LinkView). l.to_come) link) unread;
  carry = none_read;
  passed = omega (arith, passed);
}

pub read_then : (asking : Bool) (old mid new : LinesView) (ps qs : List Parcel) → HasRead asking old mid ps → HasRead asking mid new qs → HasRead asking old new (ps ++ qs)
read_then asking old mid new ps qs a b = record {
  read = a.read ++ b.read;
  lines = reads_then a.read b.read old mid new a.lines b.lines;
  carry = carry_on asking a.read b.read ps qs a.carry b.carry;
  passed = omega (arith, length-append a.read b.read, length-append ps qs, a.passed, b.passed);
}

one_passed : (taken : Option Parcel) (p q : ℕ) → q ≡ passed_after taken p → q + length (listed taken) ≡ p + 1
one_passed (Some parcel) p q e = omega (arith, e)
one_passed None p q e = omega (arith, e)

read_asking : (taken : Option Parcel) (old new : LinesView) → AsksOne taken old new → HasRead true old new (listed taken)
read_asking taken old new (inl one) = record {
  read = one.line ∷ [];
  lines = one.lines;
  carry = carry_one true one.line taken one.reads;
  passed = one_passed taken old.passed new.passed one.passed;
}
read_asking taken old new (inr broke) = subst (λ (t : Option Parcel). HasRead true old new (listed t)) (sym broke.0) (record {
  read = [];
  lines = broke.1.lines;
  carry = none_read;
  passed = omega (arith, broke.1.passed);
})

read_answering : (taken : Option Parcel) (old new : LinesView) → ReadsOn taken old new → HasRead false old new (listed taken)
read_answering (Some parcel) old new takes = record {
  read = takes.over ++ takes.line ∷ [];
  lines = takes.lines;
  carry = carry_on false takes.over (takes.line ∷ []) [] (parcel ∷ []) (carry_over false takes.over takes.passes.each) (takes_one takes.line parcel [] [] takes.spells takes.command none_read);
  passed = omega (arith, takes.passes.passed, length_push takes.over takes.line);
}
read_answering None old new breaks = record {
  read = breaks.over;
  lines = breaks.lines;
  carry = carry_over false breaks.over breaks.passes.each;
  passed = omega (arith, breaks.passes.passed);
}

is_whole : (s : LinkState) → (s ≡ state.Whole) ⊎ (s ≢ state.Whole)
is_whole state.Whole = inl refl
is_whole state.Ended = inr (λ e. absurd (cc))
is_whole state.Failed = inr (λ e. absurd (cc))
is_whole state.TooLong = inr (λ e. absurd (cc))
is_whole state.PassedOver = inr (λ e. absurd (cc))
is_whole state.NoMemory = inr (λ e. absurd (cc))

read_whole : (asking owed : Bool) (taken : Option Parcel) (old new : LinesView) → TakesBy asking owed taken old new → old.state ≡ state.Whole → HasRead asking old new (listed taken)
read_whole true true taken old new takes whole = read_asking taken old new (takes.asks refl refl whole)
read_whole true false taken old new takes whole = let none = takes.unowed refl refl in
    subst (λ (t : Option Parcel). HasRead true old new (listed t)) (sym none.0) (read_none true old new none.1.link none.1.reading.unread none.1.reading.passed)
read_whole false owed taken old new takes whole = read_answering taken old new (takes.answers refl whole)

pub read_by : (asking owed : Bool) (taken : Option Parcel) (old new : LinesView) → TakesBy asking owed taken old new → HasRead asking old new (listed taken)
read_by asking owed taken old new takes = elim (is_whole old.state) [
  | inl whole ↦ read_whole asking owed taken old new takes whole
  | inr broken ↦
      let none = takes.broken broken in
      subst (λ (t : Option Parcel). HasRead asking old new (listed t)) (sym none.0)
      (read_none asking old new (ap (λ (l : LinesView). l.link) none.1) (ap (λ (l : LinesView). l.unread) none.1) (ap (λ (l : LinesView). l.passed) none.1))
]

-- ---- what was read since a mark

behind_more : (n : ℕ) (entries : List (ℕ × Parcel)) (entry : ℕ × Parcel) → n ≤ length entries → parcels_behind n (Some (entries ++ entry ∷ [])) ≡ parcels_behind n (Some entries) ++ entry.1 ∷ []
behind_more n entries entry fits =
    ap (λ (l : List (ℕ × Parcel)). map (λ (e : ℕ × Parcel). e.1) l) (drop-append-le n entries (entry ∷ []) fits)
    ∙ map-append (λ (e : ℕ × Parcel). e.1) (drop n entries) (entry ∷ [])

pub since_some : (asking owed : Bool) (mark : WireMark) (old new : LinesView) (had got : List (ℕ × Parcel)) (entry : ℕ × Parcel) → mark.taken ≤ length had → got ≡ had ++ entry ∷ [] → TakesBy asking owed (Some entry.1) old new
    → ∥ HasReadSince mark asking old had ∥₁ → ∥ HasReadSince mark asking new got ∥₁
since_some asking owed mark old new had got entry fits gains takes held = ∥∥₁_map held (λ before.
    subst (λ (ps : List Parcel). HasRead asking mark.lines new ps) (sym (ap (λ (l : List (ℕ × Parcel)). parcels_behind mark.taken (Some l)) gains ∙ behind_more mark.taken had entry fits))
    (read_then asking mark.lines old new (parcels_behind mark.taken (Some had)) (entry.1 ∷ []) before (read_by asking owed (Some entry.1) old new takes)))

pub since_none : (asking owed : Bool) (mark : WireMark) (old new : LinesView) (had got : List (ℕ × Parcel)) → got ≡ had → TakesBy asking owed None old new
    → ∥ HasReadSince mark asking old had ∥₁ → ∥ HasReadSince mark asking new got ∥₁
since_none asking owed mark old new had got same takes held = ∥∥₁_map held (λ before.
    subst (λ (ps : List Parcel). HasRead asking mark.lines new ps) (append-nil (parcels_behind mark.taken (Some had)) ∙ ap (λ (l : List (ℕ × Parcel)). parcels_behind mark.taken (Some l)) (sym same))
    (read_then asking mark.lines old new (parcels_behind mark.taken (Some had)) [] before (read_by asking owed None old new takes)))

-- nothing but the link's sent bytes and its faults changed
pub since_put : (asking : Bool) (mark : WireMark) (old new : LinesView) (taken : List (ℕ × Parcel)) → new.link.received ≡ old.link.received → new.link.to_come ≡ old.link.to_come → new.unread ≡ old.unread → new.passed ≡ old.passed
    → ∥ HasReadSince mark asking old taken ∥₁ → ∥ HasReadSince mark asking new taken ∥₁
since_put asking mark old new taken received to_come unread passed held = ∥∥₁_map held (λ before.
    subst (λ (ps : List Parcel). HasRead asking mark.lines new ps) (append-nil (parcels_behind mark.taken (Some taken)))
    (read_then asking mark.lines old new (parcels_behind mark.taken (Some taken)) [] before (record {
      read = [];
      lines = reads_none old new received to_come unread;
      carry = none_read;
      passed = omega (arith, passed);
    })))

pub fits_map : {X Y : Type 0} (f : X → Y) (xs : List X) (n : ℕ) → n ≤ length xs → n ≤ length (map f xs)
fits_map f xs n fits = subst (λ (k : ℕ). n ≤ k) (sym (length-map xs f)) fits

-- no parcel is behind all of them
behind_all : (n : ℕ) (entries : List (ℕ × Parcel)) → length entries ≤ n → parcels_behind n (Some entries) ≡ []
behind_all n entries fits = ap (λ (l : List (ℕ × Parcel)). map (λ (e : ℕ × Parcel). e.1) l) (drop_all n entries fits)

pub fits_taken : {S : Type 0} (view : S → SiteView) (n : ℕ) (items : List (Taken S)) → n ≤ length items → n ≤ length (taken_by view items)
fits_taken {S} view n items fits = fits_map (λ (t : Taken S). ((view t.at.value).disk.beat, t.parcel.value)) items n fits

pub behind_taken : {S : Type 0} (view : S → SiteView) (n : ℕ) (items : List (Taken S)) → length items ≤ n → parcels_behind n (Some (taken_by view items)) ≡ []
behind_taken {S} view n items fits = behind_all n (taken_by view items) (omega (arith, length-map {B = ℕ × Parcel} items (λ (t : Taken S). ((view t.at.value).disk.beat, t.parcel.value)), fits))

pub behind_put : {S : Type 0} (view : S → SiteView) (n : ℕ) (items : List (Put S)) → length items ≤ n → parcels_behind n (Some (puts_by view items)) ≡ []
behind_put {S} view n items fits = behind_all n (puts_by view items) (omega (arith, length-map {B = ℕ × Parcel} items (λ (p : Put S). ((view p.at.value).disk.beat, p.parcel)), fits))

pub since_now : (asking : Bool) (mark : WireMark) (now : LinesView) (taken : List (ℕ × Parcel)) → mark.lines ≡ now → parcels_behind mark.taken (Some taken) ≡ [] → ∥ HasReadSince mark asking now taken ∥₁
since_now asking mark now taken same none = ∣ subst (λ (ps : List Parcel). HasRead asking mark.lines now ps) (sym none)
    (read_none asking mark.lines now (ap (λ (l : LinesView). l.link) (sym same)) (ap (λ (l : LinesView). l.unread) (sym same)) (ap (λ (l : LinesView). l.passed) (sym same))) ∣₁

-- ---- what was sent

lines_more : (ps : List Parcel) (parcel : Parcel) → lines_of_parcels (ps ++ parcel ∷ []) ≡ lines_of_parcels ps ++ line_of parcel
lines_more [] parcel = append-nil (line_of parcel)
lines_more (p ∷ ps) parcel = ap (λ (l : List ℕ). line_of p ++ l) (lines_more ps parcel) ∙ sym (append_assoc (line_of p) (lines_of_parcels ps) (line_of parcel))

sent_same : (since old new : LinesView) (ps : List Parcel) → new.link.sent ≡ old.link.sent → (new.state ≡ state.Whole → old.state ≡ state.Whole) → HasSent since old ps → HasSent since new ps
sent_same since old new ps same whole before = record {
  front = before.front;
  behind = before.behind;
  is = before.is;
  sent = gains_to since.link.sent old.link.sent new.link.sent before.front before.sent same;
  all = λ e. before.all (whole e);
}

sent_out : (since old new : LinesView) (ps : List Parcel) (parcel : Parcel) → old.state ≡ state.Whole → SendsAll (line_of parcel) old new → HasSent since old ps → HasSent since new (ps ++ parcel ∷ [])
sent_out since old new ps parcel whole sends before =
    let all : lines_of_parcels ps ≡ before.front = before.is ∙ ap (λ (l : List ℕ). before.front ++ l) (before.all whole) ∙ append-nil before.front in
    record {
      front = before.front ++ line_of parcel;
      behind = [];
      is = lines_more ps parcel ∙ ap (λ (l : List ℕ). l ++ line_of parcel) all ∙ sym (append-nil (before.front ++ line_of parcel));
      sent = gains_on since.link.sent old.link.sent new.link.sent before.front (line_of parcel) before.sent sends.sends.sent;
      all = λ e. refl;
    }

sent_in_part : (since old new : LinesView) (ps : List Parcel) (parcel : Parcel) → old.state ≡ state.Whole → FailsToSend (line_of parcel) old new → HasSent since old ps → HasSent since new (ps ++ parcel ∷ [])
sent_in_part since old new ps parcel whole fails before =
    let part = fails.sends in
    let all : lines_of_parcels ps ≡ before.front = before.is ∙ ap (λ (l : List ℕ). before.front ++ l) (before.all whole) ∙ append-nil before.front in
    record {
      front = before.front ++ part.front;
      behind = part.behind;
      is = lines_more ps parcel ∙ ap (λ (l : List ℕ). l ++ line_of parcel) all ∙ ap (λ (l : List ℕ). before.front ++ l) part.is ∙ sym (append_assoc before.front part.front part.behind);
      sent = gains_on since.link.sent old.link.sent new.link.sent before.front part.front before.sent part.sends.sent;
      all = λ e. absurd (cc (fails.failed, e));
    }

sent_late : (since old new : LinesView) (ps : List Parcel) (parcel : Parcel) → old.state ≢ state.Whole → new ≡ old → HasSent since old ps → HasSent since new (ps ++ parcel ∷ [])
sent_late since old new ps parcel broken same before = record {
  front = before.front;
  behind = before.behind ++ line_of parcel;
  is = lines_more ps parcel ∙ ap (λ (l : List ℕ). l ++ line_of parcel) before.is ∙ append_assoc before.front before.behind (line_of parcel);
  sent = gains_to since.link.sent old.link.sent new.link.sent before.front before.sent (ap (λ (l : LinesView). l.link.sent) same);
  all = λ e. absurd (broken (sym (ap (λ (l : LinesView). l.state) same) ∙ e));
}

sent_whole : (owed : Bool) (taken : Option Parcel) (old new : LinesView) → TakesBy true owed taken old new → old.state ≡ state.Whole → new.link.sent ≡ old.link.sent
sent_whole true taken old new takes whole = elim (takes.asks refl refl whole) [ inl one ↦ one.sent | inr broke ↦ broke.1.sent ]
sent_whole false taken old new takes whole = ap (λ (l : LinkView). l.sent) (takes.unowed refl refl).1.link

take_sends : (owed : Bool) (taken : Option Parcel) (old new : LinesView) → TakesBy true owed taken old new → (new.link.sent ≡ old.link.sent) × (new.state ≡ state.Whole → old.state ≡ state.Whole)
take_sends owed taken old new takes = elim (is_whole old.state) [
  | inl whole ↦ (sent_whole owed taken old new takes whole, λ e. whole)
  | inr broken ↦ let same = (takes.broken broken).1 in (ap (λ (l : LinesView). l.link.sent) same, λ e. sym (ap (λ (l : LinesView). l.state) same) ∙ e)
]

pub sent_by_take : (asking owed : Bool) (mark : WireMark) (taken : Option Parcel) (old new : LinesView) (puts : List (ℕ × Parcel)) → TakesBy asking owed taken old new
    → (asking ≡ true → ∥ HasSentSince mark old puts ∥₁) → asking ≡ true → ∥ HasSentSince mark new puts ∥₁
sent_by_take true owed mark taken old new puts takes held asks = let same = take_sends owed taken old new takes in
    ∥∥₁_map (held refl) (sent_same mark.lines old new (parcels_behind mark.puts (Some puts)) same.0 same.1)
sent_by_take false owed mark taken old new puts takes held asks = absurd (cc (asks))

pub sent_now : (asking : Bool) (mark : WireMark) (now : LinesView) (puts : List (ℕ × Parcel)) → mark.lines ≡ now → parcels_behind mark.puts (Some puts) ≡ [] → asking ≡ true → ∥ HasSentSince mark now puts ∥₁
sent_now asking mark now puts same none asks = ∣ subst (λ (ps : List Parcel). HasSent mark.lines now ps) (sym none) (record {
  front = [];
  behind = [];
  is = refl;
  sent = gains_to mark.lines.link.sent mark.lines.link.sent now.link.sent [] (gains_none mark.lines.link.sent) (ap (λ (l : LinesView). l.link.sent) (sym same));
  all = λ e. refl;
}) ∣₁

-- a put, by what it did to the link and the puts
pub sent_since : (mark : WireMark) (old new : LinesView) (had got : List (ℕ × Parcel)) (entry : ℕ × Parcel) → mark.puts ≤ length had → got ≡ had ++ entry ∷ []
    → (HasSent mark.lines old (parcels_behind mark.puts (Some had)) → HasSent mark.lines new (parcels_behind mark.puts (Some had) ++ entry.1 ∷ []))
    → ∥ HasSentSince mark old had ∥₁ → ∥ HasSentSince mark new got ∥₁
sent_since mark old new had got entry fits gains goes held = ∥∥₁_map held (λ before.
    subst (λ (ps : List Parcel). HasSent mark.lines new ps) (sym (ap (λ (l : List (ℕ × Parcel)). parcels_behind mark.puts (Some l)) gains ∙ behind_more mark.puts had entry fits)) (goes before))

sent_kept : (mark : WireMark) (old new : LinesView) (had got : List (ℕ × Parcel)) → got ≡ had → new.link.sent ≡ old.link.sent → (new.state ≡ state.Whole → old.state ≡ state.Whole) → ∥ HasSentSince mark old had ∥₁ → ∥ HasSentSince mark new got ∥₁
sent_kept mark old new had got same sent whole held = ∥∥₁_map held (λ before.
    subst (λ (l : List (ℕ × Parcel)). HasSent mark.lines new (parcels_behind mark.puts (Some l))) (sym same) (sent_same mark.lines old new (parcels_behind mark.puts (Some had)) sent whole before))

pub put_out : (mark : WireMark) (old new : LinesView) (had got : List (ℕ × Parcel)) (entry : ℕ × Parcel) → mark.puts ≤ length had → got ≡ had ++ entry ∷ [] → old.state ≡ state.Whole → SendsAll (line_of entry.1) old new
    → ∥ HasSentSince mark old had ∥₁ → ∥ HasSentSince mark new got ∥₁
put_out mark old new had got entry fits gains whole sends = sent_since mark old new had got entry fits gains (sent_out mark.lines old new (parcels_behind mark.puts (Some had)) entry.1 whole sends)

pub put_in_part : (mark : WireMark) (old new : LinesView) (had got : List (ℕ × Parcel)) (entry : ℕ × Parcel) → mark.puts ≤ length had → got ≡ had ++ entry ∷ [] → old.state ≡ state.Whole → FailsToSend (line_of entry.1) old new
    → ∥ HasSentSince mark old had ∥₁ → ∥ HasSentSince mark new got ∥₁
put_in_part mark old new had got entry fits gains whole fails = sent_since mark old new had got entry fits gains (sent_in_part mark.lines old new (parcels_behind mark.puts (Some had)) entry.1 whole fails)

pub put_late_on : (mark : WireMark) (old new : LinesView) (had got : List (ℕ × Parcel)) (entry : ℕ × Parcel) → mark.puts ≤ length had → got ≡ had ++ entry ∷ [] → old.state ≢ state.Whole → new ≡ old
    → ∥ HasSentSince mark old had ∥₁ → ∥ HasSentSince mark new got ∥₁
put_late_on mark old new had got entry fits gains broken same = sent_since mark old new had got entry fits gains (sent_late mark.lines old new (parcels_behind mark.puts (Some had)) entry.1 broken same)

pub put_same : (mark : WireMark) (old new : LinesView) (had got : List (ℕ × Parcel)) → got ≡ had → new ≡ old → ∥ HasSentSince mark old had ∥₁ → ∥ HasSentSince mark new got ∥₁
put_same mark old new had got same is = sent_kept mark old new had got same (ap (λ (l : LinesView). l.link.sent) is) (λ e. sym (ap (λ (l : LinesView). l.state) is) ∙ e)

pub put_unkept : (mark : WireMark) (old new : LinesView) (had got : List (ℕ × Parcel)) → got ≡ had → new ≡ record old { state = state.NoMemory } → ∥ HasSentSince mark old had ∥₁ → ∥ HasSentSince mark new got ∥₁
put_unkept mark old new had got same is = sent_kept mark old new had got same (ap (λ (l : LinesView). l.link.sent) is) (λ e. absurd (cc (ap (λ (l : LinesView). l.state) is, e)))
