use mathlib.Core.Path.{sym, ◌∙◌}
use Rattle.reporting.specs.Memory.{page_over}
use Rattle.reporting.proofs.ContractLaws.{store_is, table_is}
use Rattle.steps.specs.Page.{property_page}
use Rattle.property_page.proofs.page.Goals as goal

pub invariant_of-store : goal.invariant_of-store
invariant_of-store c = record { valid = store_is c.args.words.now c.args.strings.now (sym c.is_memory.ensures ∙ c.if-not-is_memory.false) }

pub returns-in-None : goal.returns-in-None
unfolding page_over property_page
returns-in-None c = record { shows = rw (c.refused-in-None.ensures, sym c.is_memory.ensures ∙ c.if-not-is_memory.false, sym c.object_at.ensures ∙ c.in-None.is) }

pub put_page-requires : goal.put_page-requires
put_page-requires c = record { table = table_is c.args.words.now c.args.strings.now (sym c.is_memory.ensures ∙ c.if-not-is_memory.false); object = c.in-Some-Ordinary.field-0-0; found = rw c.in-Some-Ordinary.field-0-is at (sym c.object_at.ensures ∙ c.in-Some-Ordinary.is) }

pub returns-in-Some-Ordinary : goal.returns-in-Some-Ordinary
unfolding page_over property_page
returns-in-Some-Ordinary c = record { shows = rw (sym c.is_memory.ensures ∙ c.if-not-is_memory.false, sym c.object_at.ensures ∙ c.in-Some-Ordinary.is, c.in-Some-Ordinary.field-0-is) c.put_page.ensures }

pub returns-in-Some-Proxy : goal.returns-in-Some-Proxy
unfolding page_over property_page
returns-in-Some-Proxy c = record { shows = rw (c.refused-in-Some-Proxy.ensures, sym c.is_memory.ensures ∙ c.if-not-is_memory.false, sym c.object_at.ensures ∙ c.in-Some-Proxy.is, c.in-Some-Proxy.field-0-is) }

pub returns-then-not-is_memory : goal.returns-then-not-is_memory
unfolding page_over
returns-then-not-is_memory c = record { shows = rw (c.refused.ensures, sym c.is_memory.ensures ∙ c.if-not-is_memory.true) }
