use Rattle.std.proofs.Common.{◌≡◌, ◌≤◌, ◌++◌, codes}
use Rattle.mesh_cli.specs.demo.Shop.{order_lines}
use Rattle.mesh_cli.proofs.demo.shop.orders.Given as goal

-- the header and the orders so far
abbrev pub invariant-loop-k : goal.invariant-loop-k
invariant-loop-k l = (l.out.items ≡ codes "id,day,qty\n" ++ order_lines l.k) × (l.k ≤ l.n)
