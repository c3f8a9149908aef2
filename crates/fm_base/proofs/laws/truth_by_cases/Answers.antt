use Rattle.fm_base.proofs.Constructors.{truth_of_truth, truth_of_pred, truth_of_equal, truth_of_not, truth_of_and, truth_of_or, truth_of_iff, truth_of_ite, truth_of_quant, value_of_var, value_of_app, value_of_ite}
use Rattle.fm_base.proofs.laws.truth_by_cases.Goals as goal

pub returns : goal.returns
returns c = λ m env. record {
  constant = λ b. truth_of_truth b m env;
  predicate = λ p ts. truth_of_pred p ts m env;
  equation = λ a b. truth_of_equal a b m env;
  negation = λ a. truth_of_not a m env;
  conjunction = λ fs. truth_of_and fs m env;
  disjunction = λ fs. truth_of_or fs m env;
  equivalence = λ a b. truth_of_iff a b m env;
  choice = λ c a b. truth_of_ite c a b m env;
  quantifier = λ all vars body. truth_of_quant all vars body m env;
  variable = λ v. value_of_var v m env;
  application = λ f ts. value_of_app f ts m env;
  term_choice = λ c a b. value_of_ite c a b m env;
}
