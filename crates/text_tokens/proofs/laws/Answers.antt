use Rattle.text_tokens.proofs.Cuts.{one_list, one_first_fault, never_both}
use Rattle.text_tokens.proofs.Each.{each_stands, fault_within, in_order}
use Rattle.text_tokens.proofs.Whole.{one_of_both}
use Rattle.text_tokens.proofs.laws.Goals as goal

pub returns : goal.returns
returns c =
    record {
      one_list = one_list;
      one_fault = one_first_fault;
      never_both = never_both;
      always_one = one_of_both;
      longest = each_stands;
      fault_within = fault_within;
      in_order = in_order;
    }
