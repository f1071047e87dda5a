use Rattle.gr_accept.proofs.AcceptedRows as rows
use Rattle.gr_accept.proofs.rows.refused_rows.Goals as goal

pub returns-clause-unbound : goal.returns-clause-unbound
returns-clause-unbound c = rows.unbound-faults

pub returns-clause-main_with_parameter : goal.returns-clause-main_with_parameter
returns-clause-main_with_parameter c = rows.main_with_parameter-faults

pub returns-clause-empty : goal.returns-clause-empty
returns-clause-empty c = rows.empty-faults

pub returns-clause-own_right_side : goal.returns-clause-own_right_side
returns-clause-own_right_side c = rows.own_right_side-faults

pub returns-clause-sibling_block : goal.returns-clause-sibling_block
returns-clause-sibling_block c = rows.sibling_block-faults

pub returns-clause-after_block : goal.returns-clause-after_block
returns-clause-after_block c = rows.after_block-faults

pub returns-clause-name_in_two_blocks : goal.returns-clause-name_in_two_blocks
returns-clause-name_in_two_blocks c = rows.name_in_two_blocks-faults

pub returns-clause-second_heap : goal.returns-clause-second_heap
returns-clause-second_heap c = rows.second_heap-faults

pub returns-clause-not_of_its_kind : goal.returns-clause-not_of_its_kind
returns-clause-not_of_its_kind c = rows.not_of_its_kind-faults

pub returns-clause-task_for_object : goal.returns-clause-task_for_object
returns-clause-task_for_object c = rows.task_for_object-faults

pub returns-clause-argument_missing : goal.returns-clause-argument_missing
returns-clause-argument_missing c = rows.argument_missing-faults

pub returns-clause-target_too_many : goal.returns-clause-target_too_many
returns-clause-target_too_many c = rows.target_too_many-faults

pub returns-clause-nine_parameters : goal.returns-clause-nine_parameters
returns-clause-nine_parameters c = rows.nine_parameters-faults

pub returns-clause-one_word_too_many : goal.returns-clause-one_word_too_many
returns-clause-one_word_too_many c = rows.one_word_too_many-faults

pub returns-clause-numbers_past_end : goal.returns-clause-numbers_past_end
returns-clause-numbers_past_end c = rows.numbers_past_end-faults

pub returns-clause-input_of_no_array : goal.returns-clause-input_of_no_array
returns-clause-input_of_no_array c = rows.input_of_no_array-faults
