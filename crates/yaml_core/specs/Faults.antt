-- What a line without tokens means for the whole text.
use Rattle.yaml_tokens.specs.declared.fault.TokenFault.{TokenFault}
use Rattle.yaml_tokens.specs.declared.fault.TokenFault.TheVariants as token
use Rattle.yaml_core.specs.declared.fault.YamlFault.{YamlFault}
use Rattle.yaml_core.specs.declared.fault.YamlFault.TheVariants as yaml

abbrev pub yaml_fault : TokenFault → YamlFault
yaml_fault token.Form = yaml.Form
yaml_fault token.NoMemory = yaml.NoMemory
