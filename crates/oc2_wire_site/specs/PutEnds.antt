-- Promise: The ways in which a put may end.
use Rattle.std.specs.Prelude.{◌≡◌, ◌≢◌, Bool, true, false, List, [], ◌∷◌, ◌++◌}
use Rattle.oc2_wire_lines.specs.Lines.{IsCarried, line_of}
use Rattle.oc2_wire_site.specs.LineLinks.{FailsToSend, LinesView, SendsAll}
use Rattle.oc2_wire_site.specs.declared.entries.Put.{Put}
use Rattle.oc2_wire_site.specs.declared.link_state.LinkState.TheVariants as state

-- the puts before and after, the link before and after, and whether the parcel went out
pub data PutEnd {S : Type 0} (put : Put S) (puts later : List (Put S)) (old new : LinesView) : Bool → Type 0 where
  goes_out : IsCarried put.parcel → old.state ≡ state.Whole → SendsAll (line_of put.parcel) old new → later ≡ puts ++ put ∷ [] → PutEnd put puts later old new true
  uncarried : (IsCarried put.parcel → ⊥) → new ≡ old → later ≡ puts → PutEnd put puts later old new false
  late : old.state ≢ state.Whole → new ≡ old → later ≡ puts ++ put ∷ [] → IsCarried put.parcel → PutEnd put puts later old new false
  late_unkept : old.state ≢ state.Whole → new ≡ old → later ≡ puts → PutEnd put puts later old new false
  fails : IsCarried put.parcel → old.state ≡ state.Whole → FailsToSend (line_of put.parcel) old new → later ≡ puts ++ put ∷ [] → PutEnd put puts later old new false
  unkept : IsCarried put.parcel → old.state ≡ state.Whole → new ≡ record old { state = state.NoMemory } → later ≡ puts → PutEnd put puts later old new false
