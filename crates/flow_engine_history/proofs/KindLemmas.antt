-- What is offered, added and refused of a record of one kind is so of each kind that it is of.
use Rattle.cacao_site.specs.View.{SiteView}
use Rattle.run_records.specs.declared.record.Record.{Record}
use Rattle.flow_engine_history.specs.HistoryCalls.{Adds, MayCome, Offers, Refuses}
use Rattle.flow_engine_history.specs.HistoryView.{HistoryView}
use Rattle.flow_engine_history.specs.declared.error.EngineError.{EngineError}
use Rattle.flow_engine_history.specs.declared.error.EngineError.TheVariants as refused

module _ (One Other : Record → Type 0) (same : (r : Record) → One r → Other r) where
  abbrev pub comes_as : (h : HistoryView) → MayCome h One → MayCome h Other
  comes_as h c = record { next = c.next; edits = c.edits; is = same c.next c.is; takes = c.takes }

  abbrev pub offers_as : (h : HistoryView) (old new : SiteView) → Offers h One old new → Offers h Other old new
  offers_as h old new o = record {
    comes = comes_as h o.comes;
    in_range = o.in_range;
    within = o.within;
    whole = o.whole;
    file = o.file;
    calls = o.calls;
    written = o.written;
  }

  abbrev pub adds_as : (h k : HistoryView) (old new : SiteView) → Adds h k One old new → Adds h k Other old new
  adds_as h k old new a = record { offers = offers_as h old new a.offers; steady = a.steady; view = a.view }

  pub refuses_as : (h k : HistoryView) (error : EngineError) (old new : SiteView) → Refuses h k One error old new → Refuses h k Other error old new
  refuses_as h k refused.Disk old new r = (offers_as h old new r.0, r.1, r.2)
  refuses_as h k (refused.Damaged place) old new r = r
  refuses_as h k (refused.OtherRun held asked) old new r = r
  refuses_as h k (refused.OtherBook index) old new r = r
  refuses_as h k (refused.Limit what) old new r = (record { comes = comes_as h (r.0).comes; passes = (r.0).passes; whole = (r.0).whole }, r.1, r.2)
  refuses_as h k refused.Broken old new r = r
  refuses_as h k refused.Memory old new r = r
