use Rattle.mesh_cli.proofs.demo.Pieces.{six}
use Rattle.mesh_cli.proofs.demo.shop.put_order.Goals as goal

pub returns : goal.returns
returns c = six c.put-3.result _ _ _ _ _ _ _ _ _ _ _ _ _ c.in_ok-put_number.ensures c.in_ok-put.ensures c.in_ok-put_two_digits.ensures c.in_ok-put-2.ensures c.in_ok-put_number-2.ensures c.put-3.ensures
