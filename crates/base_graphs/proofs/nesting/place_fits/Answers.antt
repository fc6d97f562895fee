use Rattle.base_graphs.proofs.nesting.place_fits.Goals as goal

pub returns : goal.returns
returns c h to m stands = c.row_fits.ensures h to stands
