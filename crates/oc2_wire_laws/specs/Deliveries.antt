-- Promise: Lists of deliveries between two ends.
use Rattle.std.specs.Prelude.{◌≡◌, ◌≢◌, ℕ, true, false, List, [], ◌∷◌, ◌++◌, map, Contains, None}
use Rattle.cacao_site.specs.DiskCalls.{IsLeft}
use Rattle.cacao_site.specs.View.{SiteView}
use Rattle.cacao_site.specs.declared.parcel.Parcel.{Parcel}
use Rattle.run_records.specs.declared.record.Record.{Record}
use Rattle.run_records.specs.declared.act.Act.{Act}
use Rattle.run_journal.specs.Layout.{Stands}
use Rattle.flow_laws.specs.Images.{IsAgent, IsRecords, IsActs, HasImage, WasSaid, told_list, puts_of, puts_to, session_puts}
use Rattle.flow_laws.specs.Held.{IsHeldAs, IsRunLine, plain}
use Rattle.flow_laws.specs.Agree.{Agree}
use Rattle.oc2_wire_laws.specs.Ends.{EngineKeeps, FiltersKeep, IsEngineStart, IsFiltersStart}

-- One end of a wire: the parcels that it sent before its session, the site on which that began, the parcels of the lines that it got
-- since, and a beat of its site.
pub record End : Type 0 where
  pub before : List Parcel
  pub start : SiteView
  pub got : List Parcel
  pub site : SiteView
  pub beat : ℕ

-- the parcels that it put in its session up to the beat, and all that it ever sent
abbrev pub put_by : End → List Parcel
put_by e = map (λ (put : ℕ × Parcel). put.1) (session_puts (puts_of e.start) e.site e.beat)

abbrev pub sent_by : End → List Parcel
sent_by e = e.before ++ put_by e

pub record Ends : Type 0 where
  pub engine : End
  pub filters : End

-- ---- what may happen

-- an end takes a step: it stands at a later beat, and may have put further parcels
pub record TakesStep (old new : End) : Type 0 where
  pub before : new.before ≡ old.before
  pub start : new.start ≡ old.start
  pub got : new.got ≡ old.got
  pub more : List Parcel
  pub puts : put_by new ≡ put_by old ++ more

-- an end at the start of its session; the parcels put that its site tells are among those that it sent before
pub record IsNew (e : End) : Type 0 where
  pub got : e.got ≡ []
  pub site : e.site ≡ e.start
  pub beat : e.beat ≡ e.start.disk.beat
  pub copies : (at : ℕ) (parcel : Parcel) → Contains (puts_to e.start e.start.disk.beat) (at, parcel) → Contains e.before parcel

-- An end crashes and begins anew: each of its own files has images that the crash may leave. Of the other end's files nothing is
-- said: that one may have changed them.
pub record Crashes (IsOwn : ℕ → Type 0) (old new : End) : Type 0 where
  pub is_new : IsNew new
  pub before : new.before ≡ sent_by old
  pub images : (file : ℕ) (image : List ℕ) → IsOwn file → IsLeft new.start.disk file new.start.disk.beat image
      → IsLeft old.site.disk file old.beat image

-- what is told as said at the new start had been said before
abbrev pub IsSaidBefore : End → End → Type 0
IsSaidBefore old new = (bytes : List ℕ) → WasSaid new.start new.start.disk.beat bytes → WasSaid old.site old.beat bytes

-- the engine's own file is the journal, and the filters' are those of the agents
abbrev pub IsJournal : ℕ → Type 0
IsJournal file = file ≡ 0

-- an end gets a line
abbrev pub gets : Parcel → End → End
gets parcel e = record e { got = e.got ++ parcel ∷ [] }

-- One of these. An end that takes a step keeps what it promises alone, the engine's in a session of this run; and what an end gets
-- the other one sent before, how often and in which order it may be.
pub data Event (run : ℕ) : Ends → Ends → Type 0 where
  engine_steps : {e f : End} (new : End) → TakesStep e new → EngineKeeps new.start run new.got new.site new.beat
      → Event run (record { engine = e; filters = f }) (record { engine = new; filters = f })
  filters_step : {e f : End} (new : End) → TakesStep f new → FiltersKeep new.start new.got new.site new.beat
      → Event run (record { engine = e; filters = f }) (record { engine = e; filters = new })
  engine_crashes : {e f : End} (new : End) → Crashes IsJournal e new → IsSaidBefore e new
      → Event run (record { engine = e; filters = f }) (record { engine = new; filters = f })
  filters_crash : {e f : End} (new : End) → Crashes IsAgent f new
      → Event run (record { engine = e; filters = f }) (record { engine = e; filters = new })
  engine_gets : {e f : End} (parcel : Parcel) → Contains (sent_by f) parcel
      → Event run (record { engine = e; filters = f }) (record { engine = gets parcel e; filters = f })
  filters_get : {e f : End} (parcel : Parcel) → Contains (sent_by e) parcel
      → Event run (record { engine = e; filters = f }) (record { engine = e; filters = gets parcel f })

-- a list of deliveries
pub data Events (run : ℕ) : Ends → Ends → Type 0 where
  nothing : {ends : Ends} → Events run ends ends
  and_then : {old mid new : Ends} → Events run old mid → Event run mid new → Events run old new

-- ---- agreement of both

-- one image for each file: that of the journal is one of the engine's end, those of the others are of the filters' end
pub record IsChoiceOfBoth (ends : Ends) (choice : ℕ → List ℕ) : Type 0 where
  pub journal : IsLeft ends.engine.site.disk 0 ends.engine.beat (choice 0)
  pub filters : (agent : ℕ) → IsAgent agent → IsLeft ends.filters.site.disk agent ends.filters.beat (choice agent)

-- each stands for a list, and these agree with all parcels that were ever sent
pub record AgreeOnBoth (ends : Ends) (choice : ℕ → List ℕ) : Type 0 where
  pub records : List Record
  pub acts : ℕ → List Act
  pub are_records : IsRecords (choice 0) records
  pub are_acts : (agent : ℕ) → IsAgent agent → IsActs (choice agent) (acts agent)
  pub agree : Agree records acts (map (λ (parcel : Parcel). (0, parcel)) (sent_by ends.engine ++ sent_by ends.filters))

abbrev pub AreGood : Ends → Type 0
AreGood ends = (choice : ℕ → List ℕ) → IsChoiceOfBoth ends choice → AgreeOnBoth ends choice

-- no act and no parcel carries the number, where the journal may be empty
pub record AreFresh (run : ℕ) (ends : Ends) : Type 0 where
  pub acts : (image : List ℕ) → IsLeft ends.engine.site.disk 0 ends.engine.beat image → Stands image []
      → (agent : ℕ) (file : List ℕ) (acts : List Act) (act : Act) → IsAgent agent
      → IsLeft ends.filters.site.disk agent ends.filters.beat file → IsActs file acts → Contains acts act → act.run ≢ run
  pub sent : (image : List ℕ) → IsLeft ends.engine.site.disk 0 ends.engine.beat image → Stands image []
      → (parcel : Parcel) → Contains (sent_by ends.engine) parcel → parcel.run ≢ run

-- each file that is asked for has an image
pub record HaveImages (ends : Ends) : Type 0 where
  pub journal : List ℕ
  pub left : IsLeft ends.engine.site.disk 0 ends.engine.beat journal
  pub files : ℕ → List ℕ
  pub files_left : (agent : ℕ) → IsAgent agent → IsLeft ends.filters.site.disk agent ends.filters.beat (files agent)

-- both ends begin: of the parcels put before the commands are the engine's and the replies the filters'; all agrees, and the number
-- is fresh
pub record AreStarts (run : ℕ) (ends : Ends) : Type 0 where
  pub engine : IsNew ends.engine
  pub filters : IsNew ends.filters
  pub commands : (parcel : Parcel) → Contains ends.engine.before parcel → parcel.back ≡ false
  pub replies : (parcel : Parcel) → Contains ends.filters.before parcel → parcel.back ≡ true
  pub some : HaveImages ends
  pub good : AreGood ends
  pub held : IsHeldAs plain ends.engine.start (puts_of ends.engine.start) ends.engine.start.disk.beat
  pub fresh : AreFresh run ends

-- from such a start all agrees behind each list of deliveries
abbrev pub DeliveriesKeepAgreement : Type 0
DeliveriesKeepAgreement = (run : ℕ) (first now : Ends) → AreStarts run first → Events run first now → AreGood now

-- and where an end begins again, the start is one that it asks for
abbrev pub RestartsAreStarts : Type 0
RestartsAreStarts = (run : ℕ) (first now : Ends) → AreStarts run first → Events run first now
    → (IsNew now.engine → IsEngineStart now.engine.start run)
    × (IsNew now.filters → IsFiltersStart now.filters.start)

-- ---- where there are such starts

-- an end at the start of a session on this site, before which it sent these parcels
abbrev pub begins_behind : List Parcel → SiteView → End
begins_behind before site = record { before = before; start = site; got = []; site = site; beat = site.disk.beat }

-- at the start of its first session
abbrev pub at_first : SiteView → End
at_first site = begins_behind [] site

-- Two sites that no session used: each end's own files have images, all of which stand for the empty list, no parcel was put, and no
-- line of a record was said.
pub record AreBlank (engine filters : SiteView) : Type 0 where
  pub journal : (image : List ℕ) → IsLeft engine.disk 0 engine.disk.beat image → Stands image []
  pub files : (agent : ℕ) (image : List ℕ) → IsAgent agent → IsLeft filters.disk agent filters.disk.beat image → Stands image []
  pub some_journal : HasImage engine 0 engine.disk.beat
  pub some_files : (agent : ℕ) → IsAgent agent → HasImage filters agent filters.disk.beat
  pub no_commands : told_list engine.link.puts ≡ []
  pub no_replies : told_list filters.link.puts ≡ []
  pub silent : (bytes : List ℕ) → WasSaid engine engine.disk.beat bytes → IsRunLine plain None bytes → ⊥

-- the first sessions of both ends may begin on them, under any number
abbrev pub BlankEndsAreStarts : Type 0
BlankEndsAreStarts = (run : ℕ) (engine filters : SiteView) → AreBlank engine filters
    → AreStarts run (record { engine = at_first engine; filters = at_first filters })
