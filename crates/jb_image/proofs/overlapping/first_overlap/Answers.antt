use Rattle.jb_image.proofs.Partners.{finds_partner, first_of_lowest}
use Rattle.jb_image.proofs.overlapping.first_overlap.Goals as goal

pub unwrap-one-requires : goal.unwrap-one-requires
unwrap-one-requires c =
    finds_partner c.args.extents.now c.in_ok-other.other (record { start = 0; len = 0 }) c.lowest_partner.result c.in_ok-other.ensures c.lowest_partner.ensures

pub returns-clause-found : goal.returns-clause-found
returns-clause-found c =
    first_of_lowest c.args.extents.now c.unwrap-one.result c.in_ok-other.other (record { start = 0; len = 0 }) c.in_ok-other.ensures
    (rw c.unwrap-one.ensures at c.lowest_partner.ensures)
