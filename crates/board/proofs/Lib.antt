mod Console
