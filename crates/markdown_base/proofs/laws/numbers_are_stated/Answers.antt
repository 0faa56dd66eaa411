use Rattle.markdown_base.proofs.Prelude.{refl}
use Rattle.markdown_base.proofs.laws.numbers_are_stated.Goals as goal

pub returns : goal.returns
returns c = record {
  autolink_scheme_size_max = refl;
  autolink_domain_size_max = refl;
  character_reference_decimal_size_max = refl;
  character_reference_hexadecimal_size_max = refl;
  character_reference_named_size_max = refl;
  code_fenced_sequence_size_min = refl;
  frontmatter_sequence_size = refl;
  gfm_html_tagfilter_size_max = refl;
  hard_break_prefix_size_min = refl;
  heading_atx_opening_fence_size_max = refl;
  html_raw_size_max = refl;
  link_reference_size_max = refl;
  list_item_value_size_max = refl;
  math_flow_sequence_size_min = refl;
  resource_destination_balance_max = refl;
  tab_size = refl;
  thematic_break_marker_count_min = refl;
}
