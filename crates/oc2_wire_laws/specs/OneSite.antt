-- Promise: From a session of both ends on one site to two ends of a wire, and back.
use Rattle.std.specs.Prelude.{◌≡◌, ℕ, List, [], ◌++◌, not, map, filter, Contains}
use Rattle.cacao_site.specs.View.{SiteView}
use Rattle.cacao_site.specs.declared.parcel.Parcel.{Parcel}
use Rattle.flow_laws.specs.Beats.{Among}
use Rattle.flow_laws.specs.Fresh.{IsFresh, IsUnused}
use Rattle.flow_laws.specs.Held.{plain}
use Rattle.flow_laws.specs.Images.{HasImage, IsAgent, WasSaid, puts_to, told_list}
use Rattle.flow_laws.specs.Sessions.{IsNewRun, IsStart}
use Rattle.oc2_wire_laws.specs.Deliveries.{AreFresh, AreStarts, Ends, Events, begins_behind, sent_by}

-- ---- from one site to two ends

-- Two ends on what a site has: their own files have images of its files, what the engine's tells as said was said there, and
-- neither tells a parcel put yet.
pub record AreEndsOf (site engine filters : SiteView) : Type 0 where
  pub journal : Among 0 site site.disk.beat engine engine.disk.beat
  pub files : (agent : ℕ) → IsAgent agent → Among agent site site.disk.beat filters filters.disk.beat
  pub said : (bytes : List ℕ) → WasSaid engine engine.disk.beat bytes → WasSaid site site.disk.beat bytes
  pub some_journal : HasImage engine 0 engine.disk.beat
  pub some_files : (agent : ℕ) → IsAgent agent → HasImage filters agent filters.disk.beat
  pub no_commands : told_list engine.link.puts ≡ []
  pub no_replies : told_list filters.link.puts ≡ []

-- the parcels put on a site
abbrev pub put_on : SiteView → List Parcel
put_on site = map (λ (put : ℕ × Parcel). put.1) (puts_to site site.disk.beat)

-- of these the commands were the engine's, and the replies the filters'
abbrev pub both_behind : SiteView → SiteView → SiteView → Ends
both_behind site engine filters = record {
  engine = begins_behind (filter (λ (parcel : Parcel). not parcel.back) (put_on site)) engine;
  filters = begins_behind (filter (λ (parcel : Parcel). parcel.back) (put_on site)) filters;
}

-- where a session of both may begin on one site, two ends may begin on what it has
abbrev pub StartsAreOfBoth : Type 0
StartsAreOfBoth = (run : ℕ) (site engine filters : SiteView) → IsStart plain site → IsFresh site run site.disk.beat
    → AreEndsOf site engine filters → AreStarts run (both_behind site engine filters)

-- ---- and back

-- A site on what two ends have: its files have images of theirs, what was put on it either sent, and what was said on it the
-- engine's had said. The filters' files have images.
pub record IsOfBoth (ends : Ends) (site : SiteView) : Type 0 where
  pub journal : Among 0 ends.engine.site ends.engine.beat site site.disk.beat
  pub files : (agent : ℕ) → IsAgent agent → Among agent ends.filters.site ends.filters.beat site site.disk.beat
  pub some_files : (agent : ℕ) → IsAgent agent → HasImage ends.filters.site agent ends.filters.beat
  pub puts : (parcel : Parcel) → Contains (put_on site) parcel → Contains (sent_by ends.engine ++ sent_by ends.filters) parcel
  pub said : (bytes : List ℕ) → WasSaid site site.disk.beat bytes → WasSaid ends.engine.site ends.engine.beat bytes

-- behind each list of deliveries a session of both may begin there, under the same number, and under each number that was fresh when
-- the list began
abbrev pub DeliveriesLeaveStarts : Type 0
DeliveriesLeaveStarts = (run : ℕ) (first now : Ends) (site : SiteView) → AreStarts run first → Events run first now
    → IsOfBoth now site → IsStart plain site × IsFresh site run site.disk.beat
    × ((next : ℕ) → AreFresh next first → IsFresh site next site.disk.beat)

-- and where the journal is taken away behind one list, the next may begin, under a number that nothing carries
abbrev pub NewRunsAreStarts : Type 0
NewRunsAreStarts = (run next : ℕ) (first now : Ends) (old site engine filters : SiteView) → AreStarts run first
    → Events run first now → IsOfBoth now old → IsNewRun plain old old.disk.beat site → IsUnused site next site.disk.beat
    → AreEndsOf site engine filters → AreStarts next (both_behind site engine filters)
