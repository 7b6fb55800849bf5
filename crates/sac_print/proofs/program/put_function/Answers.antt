use Rattle.sac_print.proofs.Printing.{◌▹◌, by_text}
use Rattle.sac_print.proofs.Trees.{listed, in_statements, in_types, in_params}
use Rattle.sac_print.proofs.program.put_function.Goals as goal

pub returns : goal.returns
returns c =
    c.in_ok-put_inline.ensures ▹ in_types c.deref.ensures.value c.in_ok-put_types.ensures ▹ by_text c.as_str.ensures.bytes c.in_ok-put.ensures
    ▹ (c.in_ok-put-2.ensures ▹ in_params c.deref-2.ensures.value c.in_ok-put_params.ensures ▹ c.in_ok-put-3.ensures)
    ▹ c.in_ok-put-4.ensures
    ▹ (in_statements c.deref-3.ensures.value c.in_ok-put_statements.ensures ▹ c.in_ok-put-5.ensures ▹ (c.in_ok-put-6.ensures ▹ listed c.deref-4.ensures.value c.in_ok-put_list.ensures ▹ c.in_ok-put-7.ensures) ▹ c.in_ok-put-8.ensures)
    ▹ c.put-9.ensures
