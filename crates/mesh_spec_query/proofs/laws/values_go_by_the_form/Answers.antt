use Rattle.mesh_spec_query.proofs.Nodes.{of_literal, of_column, of_macro, of_binary, of_neg, of_not, of_is_null, of_between, of_one_of, of_cast, of_call, of_case, count_outside, count_inside, agg_outside, agg_inside}
use Rattle.mesh_spec_query.proofs.laws.values_go_by_the_form.Goals as goal

pub returns : goal.returns
returns c = record {
  literal = of_literal;
  column = of_column;
  end_of_interval = of_macro;
  binary = of_binary;
  negated = of_neg;
  opposed = of_not;
  nullness = of_is_null;
  betweenness = of_between;
  one_of_many = of_one_of;
  cast = of_cast;
  call = of_call;
  choice = of_case;
  count_outside = count_outside;
  count = count_inside;
  aggregate_outside = agg_outside;
  aggregate = agg_inside;
}
