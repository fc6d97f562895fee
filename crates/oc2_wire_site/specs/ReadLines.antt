-- Promise: What a wire has read and sent since it was marked: lines, and the parcels that they carry.
use Rattle.std.specs.Prelude.{◌≡◌, ◌≤◌, ℕ, ◌+◌, Bool, true, List, [], ◌∷◌, ◌++◌, length, map, drop, Option, Some, None}
use Rattle.cacao_site.specs.LinkCalls.{GainsAll}
use Rattle.cacao_site.specs.declared.parcel.Parcel.{Parcel}
use Rattle.oc2_wire_lines.specs.Lines.{IsOther, Spells, line_of}
use Rattle.oc2_wire_site.specs.LineLinks.{LinesView, ReadsLines}
use Rattle.oc2_wire_site.specs.Marks.{WireMark, mark_label}
use Rattle.oc2_wire_site.specs.Wires.{WireView}
use Rattle.oc2_wire_site.specs.declared.link_state.LinkState.TheVariants as state

-- the lines carry these parcels, in order, at an end that gets those that go this way; each further line carries none of these
pub data Carry (back : Bool) : List (List ℕ) → List Parcel → Type 0 where
  none_read : Carry back [] []
  takes_one : (line : List ℕ) (parcel : Parcel) (lines : List (List ℕ)) (parcels : List Parcel) → Spells line parcel → parcel.back ≡ back → Carry back lines parcels → Carry back (line ∷ lines) (parcel ∷ parcels)
  passes_one : (line : List ℕ) (lines : List (List ℕ)) (parcels : List Parcel) → IsOther back line → Carry back lines parcels → Carry back (line ∷ lines) parcels

-- From one moment to a later one these lines were read, of the bytes that were unread then and those that came since. They carry the
-- parcels that were taken in between, and as many others as were passed over.
pub record HasRead (asking : Bool) (since now : LinesView) (parcels : List Parcel) : Type 0 where
  pub read : List (List ℕ)
  pub lines : ReadsLines read since now
  pub carry : Carry asking read parcels
  pub passed : now.passed + length parcels ≡ since.passed + length read

-- the lines of these parcels, in a row
abbrev pub lines_of_parcels : List Parcel → List ℕ
lines_of_parcels [] = []
lines_of_parcels (parcel ∷ parcels) = line_of parcel ++ lines_of_parcels parcels

-- From one moment to a later one the lines of the parcels that were put in between went out, all of them while the link is whole, else a front.
pub record HasSent (since now : LinesView) (parcels : List Parcel) : Type 0 where
  pub front : List ℕ
  pub behind : List ℕ
  pub is : lines_of_parcels parcels ≡ front ++ behind
  pub sent : GainsAll since.link.sent front now.link.sent
  pub all : now.state ≡ state.Whole → behind ≡ []

-- the parcels that a list has behind so many, where it is told
abbrev pub parcels_behind : ℕ → Option (List (ℕ × Parcel)) → List Parcel
parcels_behind n (Some entries) = map (λ entry. entry.1) (drop n entries)
parcels_behind n None = []

-- what was read and sent since a mark, by the parcels taken and put
abbrev pub HasReadSince : WireMark → Bool → LinesView → List (ℕ × Parcel) → Type 0
HasReadSince mark asking now taken = HasRead asking mark.lines now (parcels_behind mark.taken (Some taken))

abbrev pub HasSentSince : WireMark → LinesView → List (ℕ × Parcel) → Type 0
HasSentSince mark now puts = HasSent mark.lines now (parcels_behind mark.puts (Some puts))

abbrev pub count_told : Option (List (ℕ × Parcel)) → ℕ
count_told (Some entries) = length entries
count_told None = 0

-- the mark that a wire would get now
abbrev pub mark_now : WireView → WireMark
mark_now wire = record { lines = wire.lines; taken = count_told wire.site.link.taken; puts = count_told wire.site.link.puts }

-- what holds of each wire, behind any calls
pub record IsWire (wire : WireView) : Type 0 where
  pub beneath : List ℕ
  pub label : wire.site.disk.label ≡ mark_label wire.asking wire.mark beneath
  pub read : ∥ HasRead wire.asking wire.mark.lines wire.lines (parcels_behind wire.mark.taken wire.site.link.taken) ∥₁
  pub sent : wire.asking ≡ true → ∥ HasSent wire.mark.lines wire.lines (parcels_behind wire.mark.puts wire.site.link.puts) ∥₁

-- the wire was marked, and is the same but for its mark
pub record Marks (old new : WireView) : Type 0 where
  pub lines : new.lines ≡ old.lines
  pub asking : new.asking ≡ old.asking
  pub mark : new.mark ≡ mark_now old
  pub site : new.site ≡ record old.site { disk = record old.site.disk { label = new.site.disk.label } }

-- From a moment of a wire to a later one, what the parcels taken and put in between tell of its lines.
pub record KeepsLinesSince (old new : WireView) (taken puts : List (ℕ × Parcel)) : Type 0 where
  pub asking : new.asking ≡ old.asking
  pub read : ∥ HasRead old.asking old.lines new.lines (map (λ entry. entry.1) taken) ∥₁
  pub sent : old.asking ≡ true → ∥ HasSent old.lines new.lines (map (λ entry. entry.1) puts) ∥₁

-- a list that is told, and what it has more later
pub record GainsTold (old new : Option (List (ℕ × Parcel))) (more : List (ℕ × Parcel)) : Type 0 where
  pub before : List (ℕ × Parcel)
  pub was : old ≡ Some before
  pub is : new ≡ Some (before ++ more)

-- A wire that was just made or marked is known again by its label behind any calls on it, and so is what it read and sent in between.
abbrev pub MarkedKeepLines : Type 0
MarkedKeepLines = (old new : WireView) (taken puts : List (ℕ × Parcel)) → IsWire old → IsWire new → old.mark ≡ mark_now old
    → new.site.disk.label ≡ old.site.disk.label → GainsTold old.site.link.taken new.site.link.taken taken
    → GainsTold old.site.link.puts new.site.link.puts puts → KeepsLinesSince old new taken puts

-- What was read up to a later moment begins with what was read up to an earlier one, where the bytes that came are told.
abbrev pub LinesGoOn : Type 0
LinesGoOn = (asking : Bool) (since now later : LinesView) (got more : List Parcel) (early : HasRead asking since now got)
    (late : HasRead asking since later more) (was is came : List ℕ) → since.link.received ≡ Some was → now.link.received ≡ Some is
    → later.link.received ≡ Some (is ++ came) → length early.read ≤ length late.read
    → (others : List (List ℕ)) × (late.read ≡ early.read ++ others)
