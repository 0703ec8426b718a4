-- The proved rows of docs/REFERENCE.md hold of the definitions. Assumes nothing.
use mathlib.Core.Path.{◌≡◌, refl}
use Rattle.demands.specs.Rows.{rows, givens, outcomes}

-- what the definitions compute for each row is what the document says
pub rows-hold : givens rows ≡ outcomes rows
unfolding Rattle.internal_methods.specs.Answers.as_value Rattle.internal_methods.specs.Answers.ask_value Rattle.internal_methods.specs.Answers.ask_boolean Rattle.internal_methods.specs.Answers.as_prototype Rattle.internal_methods.specs.Answers.ask_prototype Rattle.internal_methods.specs.Answers.as_descriptor Rattle.internal_methods.specs.Answers.ask_descriptor Rattle.internal_methods.specs.Answers.keys_of Rattle.internal_methods.specs.Answers.as_keys Rattle.internal_methods.specs.Answers.ask_keys Rattle.internal_methods.specs.Internal.methods Rattle.internal_methods.specs.KeyList.has_key Rattle.internal_methods.specs.KeyList.without_key Rattle.internal_methods.specs.KeyList.duplicate Rattle.internal_methods.specs.KeyList.checked_off Rattle.internal_methods.specs.KeyList.rejected Rattle.internal_methods.specs.Messages.codes Rattle.internal_methods.specs.Monad.pure Rattle.internal_methods.specs.Monad.fails Rattle.internal_methods.specs.Monad.next Rattle.internal_methods.specs.Monad.◌>>=◌ Rattle.internal_methods.specs.Monad.throw_if Rattle.internal_methods.specs.Monad.throw_any Rattle.internal_methods.specs.Monad.ask Rattle.internal_methods.specs.Monad.tick Rattle.internal_methods.specs.Monad.when◌then◌else◌ Rattle.internal_methods.specs.Monad.dispatched Rattle.internal_methods.specs.Monad.dispatch Rattle.internal_methods.specs.Ordinary.reaches Rattle.internal_methods.specs.Ordinary.ordinary_set_prototype_of Rattle.internal_methods.specs.Ordinary.apply_validation Rattle.internal_methods.specs.Ordinary.ordinary_define_own_property Rattle.internal_methods.specs.Ordinary.ordinary_has_property Rattle.internal_methods.specs.Ordinary.ordinary_get Rattle.internal_methods.specs.Ordinary.set_on_receiver Rattle.internal_methods.specs.Ordinary.set_data Rattle.internal_methods.specs.Ordinary.ordinary_set Rattle.internal_methods.specs.Ordinary.ordinary_delete Rattle.internal_methods.specs.Proxy.has_trap Rattle.internal_methods.specs.Proxy.proxy_get_prototype_of Rattle.internal_methods.specs.Proxy.proxy_set_prototype_of Rattle.internal_methods.specs.Proxy.proxy_is_extensible Rattle.internal_methods.specs.Proxy.proxy_prevent_extensions Rattle.internal_methods.specs.Proxy.proxy_get_own_property Rattle.internal_methods.specs.Proxy.proxy_define_own_property Rattle.internal_methods.specs.Proxy.proxy_has_property Rattle.internal_methods.specs.Proxy.proxy_get Rattle.internal_methods.specs.Proxy.proxy_set Rattle.internal_methods.specs.Proxy.proxy_delete Rattle.internal_methods.specs.Proxy.sorted Rattle.internal_methods.specs.Proxy.proxy_own_property_keys Rattle.steps.specs.Operation.operation_of Rattle.steps.specs.Operation.asked Rattle.steps.specs.Perform.once Rattle.steps.specs.Perform.make Rattle.steps.specs.Perform.perform Rattle.demands.specs.Rows.last_of Rattle.steps.specs.Run.effect Rattle.steps.specs.Run.run_from Rattle.steps.specs.Run.run Rattle.steps.specs.Run.world_from Rattle.steps.specs.Step.keys_bytes Rattle.steps.specs.Step.ran Rattle.steps.specs.Step.step Rattle.steps.specs.StringEntry.enter_string Rattle.property.specs.Answers.conversion_message Rattle.property.specs.Answers.fill_with Rattle.property.specs.ArrayIndex.decimal Rattle.property.specs.ArrayIndex.array_index Rattle.property.specs.Descriptor.is_accessor_descriptor Rattle.property.specs.Descriptor.is_data_descriptor Rattle.property.specs.Descriptor.is_generic_descriptor Rattle.property.specs.Descriptor.to_property_descriptor Rattle.property.specs.Descriptor.complete Rattle.property.specs.Validate.applied Rattle.property.specs.Validate.validate Rattle.property.specs.Validate.reject_if Rattle.property.specs.Validate.is_compatible Rattle.property.specs.Validate.property_of Rattle.record.specs.Bytes.number_at Rattle.record.specs.Bytes.bytes_of Rattle.record.specs.Bytes.are_zero Rattle.record.specs.Bytes.value_at Rattle.record.specs.Bytes.is_value_at Rattle.record.specs.Bytes.value_bytes Rattle.record.specs.Bytes.is_part_at Rattle.record.specs.Descriptor.descriptor_at Rattle.record.specs.Descriptor.is_descriptor_at Rattle.record.specs.Descriptor.descriptor_bytes Rattle.record.specs.Sheet.values_at Rattle.record.specs.Sheet.are_values_at Rattle.record.specs.Sheet.answer_at Rattle.record.specs.Sheet.answer_end Rattle.record.specs.Sheet.is_answer_at Rattle.record.specs.Sheet.answers_at Rattle.record.specs.Sheet.are_answers_at Rattle.record.specs.Sheet.sheet_of Rattle.record.specs.Sheet.is_sheet Rattle.record.specs.Sheet.values_pass Rattle.record.specs.Sheet.sheet_passes Rattle.record.specs.Sheet.values_bytes Rattle.record.specs.Sheet.answer_bytes Rattle.record.specs.Sheet.answers_bytes Rattle.record.specs.Sheet.sheet_bytes Rattle.record.specs.Step.step_of Rattle.record.specs.Step.is_at_most_if_integer32 Rattle.record.specs.Step.is_step Rattle.record.specs.Step.are_objects_made Rattle.record.specs.Step.are_kinds_usable Rattle.record.specs.Step.step_bytes Rattle.record.specs.Tests.is_made Rattle.record.specs.Tests.is_known Rattle.record.specs.Tests.is_descriptor Rattle.record.specs.Tests.first_failing Rattle.store.specs.OwnKeys.keys_in Rattle.store.specs.OwnKeys.class_of Rattle.store.specs.OwnKeys.of_class Rattle.store.specs.OwnKeys.insert_index Rattle.store.specs.OwnKeys.ascending Rattle.store.specs.OwnKeys.ordered Rattle.store.specs.OwnKeys.ordinary_own_property_keys Rattle.store.specs.Store.lookup Rattle.store.specs.Store.put Rattle.value.specs.Bits.with_bit Rattle.store.specs.Store.excluding Rattle.store.specs.Store.live_marks Rattle.store.specs.Release.objects_name Rattle.store.specs.Release.properties_name Rattle.store.specs.Release.is_named Rattle.store.specs.Release.release Rattle.store.specs.Store.add Rattle.store.specs.Store.is_at Rattle.store.specs.Store.find Rattle.store.specs.Store.insert Rattle.store.specs.Store.remove Rattle.store.specs.Store.own Rattle.store.specs.Store.with_property Rattle.store.specs.Store.without_property Rattle.store.specs.Store.replace_at Rattle.store.specs.Store.with_change Rattle.text.specs.Strings.same_text Rattle.text.specs.Strings.number_of Rattle.text.specs.Strings.index_of Rattle.text.specs.Strings.enter Rattle.value.specs.PropertyKey.same_key Rattle.value.specs.Value.same_number Rattle.value.specs.Value.same_value Rattle.value.specs.Value.to_boolean Rattle.value.specs.Words.payload_of Rattle.value.specs.Words.value_of Rattle.value.specs.Words.is_formed lib.Ieee.of_int lib.Ieee.of_bits
rows-hold = refl
