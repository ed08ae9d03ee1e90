use Rattle.panel.proofs.Quantities.{quantity_fits}
use Rattle.panel.proofs.standing.StandingRows.quantity.Goals as goal

pub counted-requires : goal.counted-requires
counted-requires c = quantity_fits _ _ _ _ _ c.args.self.now.orderly
