mod Headed
