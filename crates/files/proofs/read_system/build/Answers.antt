use Rattle.std.proofs.Common.{◌≡◌, ◌/◌, true, length, drop, Some, vec_items, refl, ap, ◌∙◌, arith}
use Rattle.files.specs.Bytes.{two}
use Rattle.files.specs.Pattern.{fits, pattern_of, written_pattern}
use Rattle.files.specs.ReadSystem.{states_in, variables_in, values_in}
use Rattle.files.specs.Sections.{section}
use Rattle.files.specs.Sizes.{right_sizes, sizes_fault}
use Rattle.files.specs.Transition.{is_drawn, transition_of, written}
use Rattle.files.proofs.RightFile.{built_few, built_pass, first_length, right_parts, sizes_right}
use Rattle.files.proofs.read_system.build.Goals as goal

pub of-counts-requires : goal.of-counts-requires
of-counts-requires c =
    let bs = c.args.bytes.now in let l = first_length bs (right_parts bs c.requires).0 in omega arith

pub invariant_of-result : goal.invariant_of-result
invariant_of-result c =
    let bs = c.args.bytes.now in
    let one = c.of.result.bytes.now in
    let v = c.of-counts.result.variables in
    let w = c.of-counts.result.values in
    let counts = c.of-counts.result.states.now in
    let second = c.of-2.result.bytes.now in
    let third = c.of-3.result.bytes.now in
    let right = right_parts bs c.requires in
    let states = c.in_ok-states.ensures.items in
    let transitions = c.in_ok-transitions.ensures in
    let patterns = c.in_ok-patterns.ensures in
    let sized : right_sizes (vec_items c.in_ok-states.states) v w ≡ true =
    rw (states ∙ c.of-counts.ensures.states, c.of-counts.ensures.variables, c.of-counts.ensures.values) (sizes_right one (ap sizes_fault c.of.ensures.bytes ∙ right.1)) in
    let few = built_few (transition_of (states_in bs) (variables_in bs) (values_in bs)) (transition_of counts v w) 7 7 64 (two bs 4) (section 1 bs) second (vec_items c.in_ok-transitions.transitions) right.2 refl c.of-2.ensures.bytes transitions in
    let drawn = built_pass (λ ss. is_drawn ss v w) written 7 (length second / 7) second counts (vec_items c.in_ok-states.states) (vec_items c.in_ok-transitions.transitions) states transitions in
    let short = built_few (pattern_of (states_in bs)) (pattern_of counts) (length (states_in bs)) (length counts) 16 (two bs 8) (section 2 bs) third (vec_items c.in_ok-patterns.patterns) right.3 (ap length (c.of-counts.ensures.states ∙ ap (drop 3) c.of.ensures.bytes)) c.of-3.ensures.bytes patterns in
    let fitting = built_pass fits (λ ps. Some (written_pattern ps)) (length counts) (length third / length counts) third counts (vec_items c.in_ok-states.states) (vec_items c.in_ok-patterns.patterns) states patterns in
    record { sized = sized; few = few; drawn = drawn; short = short; fitting = fitting }
