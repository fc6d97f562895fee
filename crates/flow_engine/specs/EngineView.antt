-- Promise: What contracts see of an engine.
use Rattle.flow_engine_history.specs.HistoryView.{HistoryView}
use Rattle.flow_engine.specs.OpenIssues.{OpenIssues}

pub record EngineView : Type 0 where
  pub history : HistoryView  -- the run and its file
  pub puts : OpenIssues  -- the waiting issues that were put since the opening
